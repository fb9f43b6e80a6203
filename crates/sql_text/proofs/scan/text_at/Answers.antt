use Rattle.sql_text.proofs.Imports.{◌+◌, inl, inr, length, get_or, drop, Some, sym, ap, ◌∙◌, arith, text_at}
use Rattle.sql_grammar.specs.declared.TextPlace.TheVariants as place
use Rattle.sql_text.proofs.Bytes.{text_behind, turn, content_step, pass_step, text_ends, whole_text}
use Rattle.sql_text.proofs.scan.text_at.Goals as goal
use Rattle.sql_text.proofs.scan.text_at.Goals.{in-Content+in_ok-push-in-Content, in-Passed}

pub returns-in-Behind-clause-read : goal.returns-in-Behind-clause-read
returns-in-Behind-clause-read c =
    turn _ c.args.bytes.now _ c.loop-i.i c.loop-i.place _ c.loop-i.invariant (omega arith)
    (sym c.in-Behind.ensures) ∙ whole_text c.loop-i.content.items c.loop-i.i
    ∙ ap (λ f. Some (f, c.loop-i.i)) (sym c.from_vec.ensures)

pub returns-in-Bad-clause-read : goal.returns-in-Bad-clause-read
returns-in-Bad-clause-read c =
    turn _ c.args.bytes.now c.loop-i.content.items c.loop-i.i c.loop-i.place _ c.loop-i.invariant
    (omega arith) (sym c.in-Bad.ensures)

pub loop-i-preserved : goal.loop-i-preserved
loop-i-preserved c =
    let bytes = c.args.bytes.now in
    let i = c.loop-i.i in
    let content = c.loop-i.content.items in
    elim c.match-text_byte.branch [
      | in-Content+in_ok-push-in-Content w ↦
          let read = text_at place.Middle (drop (i + 1) bytes) in
          let step = turn _ bytes content i c.loop-i.place _ c.loop-i.invariant (omega arith)
          (sym w.in-Content.ensures) ∙ content_step content i (get_or bytes i 0) read in
          let made = ap (λ v. v.items) w.content-is ∙ w.in_ok-push-in-Content.ensures.items in
          step ∙ ap (λ f. text_behind f (i + 1) read) (sym made)
          ∙ ap (λ p. text_behind c.match-text_byte.content.items (i + 1)
          (text_at p (drop (i + 1) bytes))) (sym w.place-is)
      | in-Passed w ↦
          let read = text_at w.in-Passed.next (drop (i + 1) bytes) in
          let step = turn _ bytes content i c.loop-i.place _ c.loop-i.invariant (omega arith)
          (sym w.in-Passed.ensures) ∙ pass_step content i read in
          step ∙ ap (λ f. text_behind f (i + 1) read) (sym (ap (λ v. v.items) w.content-is))
          ∙ ap (λ p. text_behind c.match-text_byte.content.items (i + 1)
          (text_at p (drop (i + 1) bytes))) (sym w.place-is)
    ]

pub returns-in-BehindQuote-clause-read : goal.returns-in-BehindQuote-clause-read
returns-in-BehindQuote-clause-read c =
    let n = length c.args.bytes.now in
    text_ends _ c.args.bytes.now _ c.loop-i.i c.loop-i.place place.BehindQuote c.loop-i.invariant
    (omega arith) c.in-BehindQuote.is ∙ whole_text c.loop-i.content.items n
    ∙ ap (λ f. Some (f, n)) (sym c.from_vec-in-BehindQuote.ensures)

pub returns-in-Middle-clause-read : goal.returns-in-Middle-clause-read
returns-in-Middle-clause-read c =
    elim c.in-Middle.is [
      | inl is ↦ text_ends _ c.args.bytes.now c.loop-i.content.items c.loop-i.i c.loop-i.place
          place.Middle c.loop-i.invariant (omega arith) is
      | inr is ↦ text_ends _ c.args.bytes.now c.loop-i.content.items c.loop-i.i c.loop-i.place
          place.BehindBackslash c.loop-i.invariant (omega arith) is
    ]
