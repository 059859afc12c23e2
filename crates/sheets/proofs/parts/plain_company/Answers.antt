use Rattle.std.proofs.Common.{◌++◌, List, ℕ, Some, codes, ap, ◌∙◌}
use Rattle.std.proofs.lemmas.Bool.Decides.{Decides-eqb}
use Rattle.std.proofs.lemmas.Slice.Eq.{slice_eq-Decides, strip_prefix_is}
use Rattle.order_grammar.specs.Version.{reading_in}
use Rattle.sheets.specs.Reading.{order_read}
use Rattle.sheets.proofs.Heads.{company_read, read_here}
use Rattle.sheets.proofs.parts.plain_company.Goals as goal

pub returns-then-eq : goal.returns-then-eq
returns-then-eq c =
    let line = c.args.line in
    let whole = strip_prefix_is Decides-eqb line.text.now (codes "COMPANY ") (Some c.in-Some.code)
    c.in-Some.ensures.cases in
    let code = (slice_eq-Decides Decides-eqb _ _ _ c.eq.ensures).0 c.if-eq.true
    ∙ (c.as_bytes.ensures.value ∙ c.code.ensures) in
    read_here line.number _ c.if-line-gt-LINES_MOST.false
    ∙ ap (λ (t : List ℕ). order_read (reading_in line.version t)) (whole ∙ ap (λ (w : List ℕ). codes "COMPANY " ++ w) code)
    ∙ company_read line.version _
