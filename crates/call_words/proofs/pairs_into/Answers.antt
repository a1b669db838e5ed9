-- `call_words::pairs_into`: the bytes of one number more.
use Rattle.std.proofs.Common.{◌≡◌, ℕ, suc, ◌+◌, ◌*◌, ◌<◌, List, [], ◌∷◌, ◌++◌, length, take, flat_map, get_or, slice_set, sym, ap, ◌∙◌, take-suc, append_assoc, append-nil, length-set, arith, refl}
use Rattle.std.proofs.Math.Seq.{take-suc-set}
use Rattle.std.proofs.lemmas.Grind.{flat_map-append}
use Rattle.std.specs.Int.{to_be_bytes, w16}
use Rattle.call_words.proofs.pairs_into.Goals as goal

two_more :
    (bytes : List ℕ) (n m k a b : ℕ) → m ≡ suc n → k ≡ suc (suc n) → suc n < length bytes →
    take k (slice_set (slice_set bytes n a) m b) ≡ take n bytes ++ (a ∷ b ∷ [])
two_more bytes n m k a b next end h =
    rw (next, end) (take-suc-set (slice_set bytes n a) (suc n) b (omega (arith, h, length-set bytes n a)))
    ∙ ap (λ xs. xs ++ (b ∷ [])) (take-suc-set bytes n a (omega (arith, h))) ∙ append_assoc (take n bytes) (a ∷ []) (b ∷ [])

one_more :
    (f : ℕ → List ℕ) (list : List ℕ) (i k : ℕ) → k ≡ suc i → i < length list →
    flat_map f (take k list) ≡ flat_map f (take i list) ++ f (get_or list i 0)
one_more f list i k next h =
    rw next (ap (flat_map f) (take-suc list i 0 h)) ∙ flat_map-append f (take i list) (get_or list i 0 ∷ [])
    ∙ ap (λ xs. flat_map f (take i list) ++ xs) (append-nil (f (get_or list i 0)))

pub loop-i-preserved : goal.loop-i-preserved
loop-i-preserved c =
    let i = c.loop-i.i in
    let bytes = c.loop-i.bytes in
    let list = c.args.list.now in
    let high = get_or c.to_be_bytes.result 0 0 in
    let low = get_or c.to_be_bytes.result 1 0 in
    let pair : high ∷ low ∷ [] ≡ to_be_bytes w16 (get_or list i 0) = rw c.to_be_bytes.ensures refl in
    record {
      long = length-set _ _ _ ∙ length-set _ _ _ ∙ c.loop-i.invariant.long;
      written =
          two_more bytes (2 * i) (2 * i + 1) (2 * (i + 1)) high low (omega arith) (omega arith) (omega (arith, c.loop-i-test.true, c.loop-i.invariant.long))
          ∙ ap (λ xs. xs ++ (high ∷ low ∷ [])) c.loop-i.invariant.written ∙ ap (λ xs. flat_map (λ x. to_be_bytes w16 x) (take i list) ++ xs) pair
          ∙ sym (one_more (λ x. to_be_bytes w16 x) list i (i + 1) (omega arith) c.loop-i-test.true);
    }
