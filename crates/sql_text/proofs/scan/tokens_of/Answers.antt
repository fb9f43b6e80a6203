use Rattle.sql_text.proofs.Imports.{◌≡◌, ◌-◌, sym, ap, ◌∙◌, arith, behind_token, tokens_behind}
use Rattle.sql_text.proofs.Turns.{fault_goes}
use Rattle.sql_text.proofs.Bytes.{tokens_with, tokens_front, token_step}
use Rattle.sql_text.proofs.scan.tokens_of.Goals as goal

pub loop-first-preserved : goal.loop-first-preserved
loop-first-preserved c =
    let front = c.loop-first.tokens.items in
    let bytes = c.in-Some.more.now in
    let less : c.saturating_sub-taken.result ≡ c.in-Ok.len - 1 = omega arith in
    c.loop-first.invariant ∙ ap (tokens_with front)
    (tokens_front c.loop-first.taken c.in-Some.first bytes c.loop-first.rest.now
    c.in-Some.ensures (omega arith) (sym c.if-is_blank.ensures))
    ∙ ap (λ r. tokens_with front (behind_token r (λ n. tokens_behind n bytes))) c.in-Ok.ensures
    ∙ token_step front c.in-Ok.token (tokens_behind (c.in-Ok.len - 1) bytes)
    ∙ ap (λ f. tokens_with f (tokens_behind (c.in-Ok.len - 1) bytes))
    (sym c.in_ok-push-in-Ok.ensures.items)
    ∙ ap (λ n. tokens_with c.push.new.self.items (tokens_behind n bytes)) (sym less)

pub returns-in-Err : goal.returns-in-Err
returns-in-Err c =
    let front = c.loop-first.tokens.items in
    let bytes = c.in-Some.more.now in
    fault_goes c.in-Err.error _ _ c.in-Err.ensures (λ none. c.loop-first.invariant
    ∙ ap (tokens_with front) (tokens_front c.loop-first.taken c.in-Some.first bytes
    c.loop-first.rest.now c.in-Some.ensures (omega arith) (sym c.if-is_blank.ensures))
    ∙ ap (λ r. tokens_with front (behind_token r (λ n. tokens_behind n bytes))) none)
