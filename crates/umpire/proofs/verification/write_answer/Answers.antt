use Rattle.std.proofs.Common.{◌≡◌, ◌<◌, ◌≤◌, List, ℕ, length, ap, inl, refl, subst, sym, ◌∙◌, arith, rules}
use Rattle.std.proofs.KnownBytes.{Keeps-refl}
use Rattle.std.proofs.lemmas.Grind.{common_steps}
use Rattle.std.proofs.lemmas.Result.{IfErr-weaker, on_ok_weaker}
use Rattle.std.specs.Prelude.{Err, Ok}
use Rattle.sheets.specs.File.{IsAccepted, content_of}
use Rattle.umpire.proofs.VerifyLemmas.{game_answers, game_stops, over_limit, refusal_stops, within_limit}
use Rattle.umpire.specs.InputSplit.{certificates_most, certificates_of_input}
use Rattle.umpire.proofs.verification.write_answer.Goals as goal

pub returns-then-certificates-gt-CERTIFICATES_MOST-clause-err :
    goal.returns-then-certificates-gt-CERTIFICATES_MOST-clause-err
returns-then-certificates-gt-CERTIFICATES_MOST-clause-err g c =
    let over : certificates_most < length (certificates_of_input c.args.input.now) =
    subst (λ (text : List ℕ). certificates_most < length text) c.part.ensures.certificates
    c.if-certificates-gt-CERTIFICATES_MOST.true in
    refusal_stops c.args.input.now _ _ _ _ _ (over_limit c.args.input.now over) c.refuse.ensures

pub returns-in-Ok-clause-ok : goal.returns-in-Ok-clause-ok
returns-in-Ok-clause-ok g c =
    on_ok_weaker c.write_judgement.result
    (game_answers c.args.input.now c.in-Ok.sheets c.part.result.certificates.now _ _ (Ok tt)
    (c.in-Ok.ensures.file ∙ c.part.ensures.file) c.part.ensures.certificates
    c.if-certificates-gt-CERTIFICATES_MOST.false (subst IsAccepted (sym c.in-Ok.ensures.file)
    c.in-Ok.ensures.accepted))
    c.write_judgement.ensures.ok

pub returns-in-Ok-clause-err : goal.returns-in-Ok-clause-err
returns-in-Ok-clause-err g c =
    IfErr-weaker c.write_judgement.result _ _
    (λ fault stops. game_stops c.args.input.now c.in-Ok.sheets c.part.result.certificates.now _ _ _ fault
    (c.in-Ok.ensures.file ∙ c.part.ensures.file) c.part.ensures.certificates
    c.if-certificates-gt-CERTIFICATES_MOST.false (subst IsAccepted (sym c.in-Ok.ensures.file)
    c.in-Ok.ensures.accepted) stops)
    c.write_judgement.ensures.err

pub returns-in-Err-clause-err : goal.returns-in-Err-clause-err
returns-in-Err-clause-err g c =
    let within : length (certificates_of_input c.args.input.now) ≤ certificates_most =
    subst (λ (text : List ℕ). length text ≤ certificates_most) c.part.ensures.certificates
    c.if-certificates-gt-CERTIFICATES_MOST.false in
    let is : content_of c.part.result.file.now ≡ Err c.in-Err.fault =
    first_of (search rules, grind (arith, common_steps)) in
    let refused = within_limit c.args.input.now within ∙ ap content_of (sym c.part.ensures.file) ∙ is in
    refusal_stops c.args.input.now _ _ _ _ _ refused c.refuse-in-Err.ensures

pub returns-in-Err-Memory-clause-err : goal.returns-in-Err-Memory-clause-err
returns-in-Err-Memory-clause-err g c = (refl, c.requires, inl (Keeps-refl _))
