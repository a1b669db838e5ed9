-- `sabercall::Line::keep`: the bytes stand behind those of the line.
use Rattle.std.proofs.Common.{◌≡◌, ◌+◌, ◌-◌, min, ◌++◌, take, length, sym, ap, ◌∙◌, length-take, arith, rules}
use Rattle.std.proofs.lemmas.Slice.{take-put_mid}
use Rattle.sabercall.proofs.Kept.{kept}
use Rattle.sabercall.proofs.Line.keep.Goals as goal

pub returns : goal.returns
returns c =
    let line = c.self.inside in
    let old = c.args.self.now in
    let more = c.args.bytes.now in
    let long : length old ≡ line.length = omega (arith, c.self.invariant, c.self.told, length-take line.length line.bytes, ap length c.self.view_is) in
    let many : c.min-kept.result ≡ min (length more) (65538 - length old) = c.min-kept.ensures ∙ ap (λ n. min (length more) (65538 - n)) (sym long) in
    let fit : length c.copy_from_slice.new.self ≡ c.min-kept.result = search rules in
    let now : c.copy_from_slice.new.self ≡ take c.min-kept.result more = search rules in
    take-put_mid line.length (line.length + c.min-kept.result - line.length) line.bytes c.copy_from_slice.new.self (line.length + c.min-kept.result) (omega (arith, fit)) (omega (arith, c.self.invariant, c.self.told))
    ∙ ap (λ xs. xs ++ c.copy_from_slice.new.self) c.self.view_is ∙ ap (λ xs. old ++ xs) (now ∙ ap (λ n. take n more) many)
    ∙ kept old more 65538 (omega (arith, long, c.self.invariant))
