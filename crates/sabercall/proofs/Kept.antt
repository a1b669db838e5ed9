-- Bytes taken off the front of a block, and bytes kept at the end of a line.
use Rattle.std.proofs.Common.{◌≡◌, ℕ, ◌+◌, ◌-◌, ◌≤◌, min, List, ◌++◌, length, take, drop, sym, ap, ◌∙◌, take_all, length-take, drop-drop, inl, inr, arith}
use Rattle.std.proofs.lemmas.Bool.Decides.{leb_tells}
use Rattle.std.proofs.lemmas.List.{drop-take}
use Rattle.std.proofs.Math.Seq.{take-append-add}

pub taken :
    (bytes : List ℕ) (at end count : ℕ) → at ≤ end → count ≤ length (take (end - at) (drop at bytes)) →
    take (end - (at + count)) (drop (at + count) bytes) ≡ drop count (take (end - at) (drop at bytes))
taken bytes at end count h fits =
    let long : count ≤ end - at = omega (arith, fits, length-take (end - at) (drop at bytes)) in
    let split : end - at ≡ count + (end - (at + count)) = omega (arith, long, h) in
    ap (λ xs. take (end - (at + count)) xs) (sym (drop-drop count at bytes)) ∙ sym (drop-take count (end - (at + count)) (drop at bytes))
    ∙ ap (λ n. drop count (take n (drop at bytes))) (sym split)

-- as many as find a place
up_to : (more : List ℕ) (n : ℕ) → take (min (length more) n) more ≡ take n more
up_to more n = elim (leb_tells n (length more)) [
  | inl h ↦ ap (λ k. take k more) (omega (arith, h.1))
  | inr h ↦ ap (λ k. take k more) (omega (arith, h.1)) ∙ take_all (length more) more (omega arith) ∙ sym (take_all n more (omega (arith, h.1)))
]

pub kept :
    (old more : List ℕ) (most : ℕ) → length old ≤ most → old ++ take (min (length more) (most - length old)) more ≡ take most (old ++ more)
kept old more most h = ap (λ xs. old ++ xs) (up_to more (most - length old)) ∙ sym (take-append-add old more (most - length old)) ∙ ap (λ n. take n (old ++ more)) (omega (arith, h))
