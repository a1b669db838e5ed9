-- Laws of vectors as flat lists.
use Prim.Native.Nat.{ℕ, zero, suc, ◌+◌, ◌*◌, ◌<◌, ◌≤◌}
use mathlib.Core.List.{List, [], ◌∷◌, ◌++◌, map, map-append, append-nil, append_assoc}
use Rattle.std.specs.Prelude.{◌≡◌, length, take, drop}
use Rattle.std.proofs.Math.Path.{refl, ap₂}
use Rattle.std.proofs.Common.{sym, ◌∙◌, ap, mul-le-mul_left, length-take, length-drop, drop_at, take_all}
use Rattle.std.proofs.Math.Decide.{dec_lt}
use Rattle.std.proofs.Math.Nat.{add-zero, add-suc, mul-suc}
use native.Mathlib.Omega.{arith}
use Rattle.std.proofs.Math.ListN.{length-append}
use Rattle.std.proofs.lemmas.List.{take-append-le, drop-append-le}
use Rattle.algebra.specs.Ring.{poly, blocks}

pub length_poly : {A : Type 0} (s : List A) (i : ℕ) → length (poly s i) ≤ 256
length_poly s i = rw (length-take 256 (drop (256 * i) s)) (omega arith)

take_map : {A B : Type 0} (f : A → B) (n : ℕ) (s : List A) → take n (map f s) ≡ map f (take n s)
take_map f zero s = refl
take_map f (suc n) [] = refl
take_map f (suc n) (x ∷ s) = ap (λ t. f x ∷ t) (take_map f n s)

drop_map : {A B : Type 0} (f : A → B) (n : ℕ) (s : List A) → drop n (map f s) ≡ map f (drop n s)
drop_map f zero s = refl
drop_map f (suc n) [] = refl
drop_map f (suc n) (x ∷ s) = drop_map f n s

pub part_map : {A B : Type 0} (f : A → B) (a n : ℕ) (s : List A) → take n (drop a (map f s)) ≡ map f (take n (drop a s))
part_map f a n s = ap (take n) (drop_map f a s) ∙ take_map f n (drop a s)

pub poly_map : {A B : Type 0} (f : A → B) (s : List A) (i : ℕ) → poly (map f s) i ≡ map f (poly s i)
poly_map f s i = part_map f (256 * i) 256 s

module _ {A : Type 0} where
  blocks_suc : (l : ℕ) (f : ℕ → List A) → blocks (suc l) f ≡ blocks l f ++ f l
  unfolding blocks
  blocks_suc l f = refl

  pub blocks_cong : (l : ℕ) (f g : ℕ → List A) → ((i : ℕ) → i < l → f i ≡ g i) → blocks l f ≡ blocks l g
  unfolding blocks
  blocks_cong zero f g e = refl
  blocks_cong (suc l) f g e = ap₂ ◌++◌ (blocks_cong l f g (λ i h. e i (omega arith))) (e l (omega arith))

  -- n blocks and then k more
  pub blocks_append : (n k : ℕ) (f : ℕ → List A) → blocks (n + k) f ≡ blocks n f ++ blocks k (λ i. f (n + i))
  unfolding blocks
  blocks_append n zero f = rw add-zero (sym (append-nil (blocks n f)))
  blocks_append n (suc k) f =
      rw add-suc (ap (λ t. t ++ f (n + k)) (blocks_append n k f) ∙ append_assoc (blocks n f) (blocks k (λ i. f (n + i))) (f (n + k)))

  -- of l blocks, each of w elements
  module _ (w : ℕ) where
    pub length_blocks : (l : ℕ) (f : ℕ → List A) → ((i : ℕ) → i < l → length (f i) ≡ w) → length (blocks l f) ≡ w * l
    unfolding blocks
    length_blocks zero f e = omega arith
    length_blocks (suc l) f e =
        length-append (blocks l f) (f l) ∙ omega (arith, length_blocks l f (λ i h. e i (omega arith)), e l (omega arith), mul-suc w l)

    pub block_at :
        (l : ℕ) (f : ℕ → List A) → ((i : ℕ) → i < l → length (f i) ≡ w) → (i : ℕ) → i < l →
        take w (drop (w * i) (blocks l f)) ≡ f i
    block_at zero f e i h = absurd (omega arith)
    block_at (suc l) f e i h = go (dec_lt i l) (block_at l f (λ j hj. e j (omega arith)) i)
      where
        long : length (blocks l f) ≡ w * l
        long = length_blocks l f (λ j hj. e j (omega arith))

        go : Dec (i < l) → (i < l → take w (drop (w * i) (blocks l f)) ≡ f i) → take w (drop (w * i) (blocks (suc l) f)) ≡ f i
        go (yes p) back =
            let q : w * suc i ≤ w * l = mul-le-mul_left w (omega arith) in
            let r : w * suc i ≡ w * i + w = mul-suc w i in
            rw (
              blocks_suc l f,
              drop-append-le (w * i) (blocks l f) (f l) (omega (arith, long)),
              take-append-le w (drop (w * i) (blocks l f)) (f l) (rw length-drop (omega (arith, long))),
            )
            (back p)
        go (no q) back =
            let r : l ≡ i = omega arith in
            rw (← r, blocks_suc l f, drop_at (blocks l f) (f l) (w * l) long) (take_all w (f l) (omega (arith, e l (omega arith))))

  pub poly_blocks :
      (l : ℕ) (f : ℕ → List A) → ((i : ℕ) → i < l → length (f i) ≡ 256) → (i : ℕ) → i < l → poly (blocks l f) i ≡ f i
  poly_blocks = block_at 256

pub map_blocks : {A B : Type 0} (g : A → B) (l : ℕ) (f : ℕ → List A) → map g (blocks l f) ≡ blocks l (λ i. map g (f i))
unfolding blocks
map_blocks g zero f = refl
map_blocks g (suc l) f = map-append g (blocks l f) (f l) ∙ ap (λ t. t ++ map g (f l)) (map_blocks g l f)
