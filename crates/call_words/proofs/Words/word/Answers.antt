-- `call_words::Words::word`: the first word, and the words behind it.
use Rattle.call_words.proofs.Split.{last_word, more_words}
use Rattle.call_words.proofs.Words.word.Goals.{in-empty, in-len1-up}
use Rattle.call_words.proofs.Words.word.Goals as goal

pub returns : goal.returns
returns c =
    let s = c.in-Some.rest.now in
    elim c.if-after-lt1.branch [
      | in-empty w ↦ rw (c.in-Some.is, w.self-is, c.split_at.ensures.front) (last_word s _ _ c.find-end.ensures.place c.split_at.ensures.back w.in-empty.len_below)
      | in-len1-up w ↦ rw (c.in-Some.is, w.self-is, c.split_at.ensures.front) (more_words s _ _ c.find-end.ensures.place c.split_at.ensures.back w.in-len1-up.len_at_least)
    ]
