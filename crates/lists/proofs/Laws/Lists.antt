-- Laws of lists by their places.
use Rattle.std.specs.Prelude.{ℕ, zero, suc, ◌+◌, ◌<◌, List, [], ◌∷◌, ◌++◌, map, ◌≡◌, refl, length, get_or, drop}
use Rattle.std.proofs.Common.{sym, ap, ap₂, ◌∙◌, zero-add, suc-add, add-one, arith, drop-cons}
use Rattle.lists.specs.Lists.{from}

-- what is left of a list from a place on
pub drop_next : {A : Type 0} (xs : List A) (i : ℕ) (d : A) → i < length xs → drop i xs ≡ get_or xs i d ∷ drop (i + 1) xs
drop_next xs i d h = rw add-one (drop-cons xs i d h)

pub length_from : {A : Type 0} (n : ℕ) (f : ℕ → A) → length (from n f) ≡ n
unfolding from
length_from zero f = refl
length_from (suc n) f = ap suc (length_from n (λ k. f (suc k)))

pub from_at : {A : Type 0} (n : ℕ) (f : ℕ → A) (d : A) (k : ℕ) → k < n → get_or (from n f) k d ≡ f k
unfolding from
from_at zero f d k h = absurd (omega arith)
from_at (suc n) f d zero h = refl
from_at (suc n) f d (suc k) h = from_at n (λ j. f (suc j)) d k (omega arith)

pub from_cong : {A : Type 0} (n : ℕ) (f g : ℕ → A) → ((k : ℕ) → k < n → f k ≡ g k) → from n f ≡ from n g
unfolding from
from_cong zero f g e = refl
from_cong (suc n) f g e =
    ap₂ ◌∷◌ (e 0 (omega arith)) (from_cong n (λ k. f (suc k)) (λ k. g (suc k)) (λ k h. e (suc k) (omega arith)))

pub map_from : {A B : Type 0} (f : A → B) (n : ℕ) (g : ℕ → A) → map f (from n g) ≡ from n (λ k. f (g k))
unfolding from
map_from f zero g = refl
map_from f (suc n) g = ap (λ t. f (g 0) ∷ t) (map_from f n (λ k. g (suc k)))

-- a list made of another, place by place
pub from_map : {A B : Type 0} (f : A → B) (n : ℕ) (s : List A) (d : A) → length s ≡ n → from n (λ k. f (get_or s k d)) ≡ map f s
unfolding from
from_map f zero [] d e = refl
from_map f zero (x ∷ s) d e = absurd (omega arith)
from_map f (suc n) [] d e = absurd (omega arith)
from_map f (suc n) (x ∷ s) d e = ap (λ t. f x ∷ t) (from_map f n s d (omega arith))

-- in two parts
pub from_add : (m k : ℕ) (f : ℕ → ℕ) → from (m + k) f ≡ from m f ++ from k (λ i. f (m + i))
unfolding from
from_add zero k f = rw (zero-add k) (from_cong k f (λ i. f (0 + i)) (λ i h. ap f (sym (zero-add i))))
from_add (suc m) k f =
    rw (suc-add m k)
    (ap (λ (l : List ℕ). f 0 ∷ l)
    (from_add m k (λ i. f (suc i)) ∙ ap (λ (l : List ℕ). from m (λ i. f (suc i)) ++ l) (from_cong k _ _ (λ i h. ap f (sym (suc-add m i))))))
