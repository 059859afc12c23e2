use Rattle.std.proofs.Common.{◌≡◌, List, ◌++◌, ap, sym, subst, ◌∙◌}
use Rattle.foresight.specs.Ahead.{AheadState}
use Rattle.page_lays.specs.Turns.{AreTurnsIn, is_wanted}
use Rattle.page_lays.specs.declared.company_turns.Turn.{Turn}
use Rattle.page_lays.proofs.company_turns.turns_of.Goals as goal

pub returns : goal.returns
returns g c =
    let added = c.in_ok-push_turns.ensures in
    let companies = c.args.wanted.companies.now in
    let all : c.push_turns.new.list.items ≡ added.turns =
    added.added ∙ ap (λ (old : List Turn). old ++ added.turns) c.new-list.ensures.items in
    subst (λ (ahead : AheadState). AreTurnsIn (is_wanted companies) ahead c.push_turns.new.list.items)
    c.in_ok-ahead.ensures
    (subst (λ (turns : List Turn). AreTurnsIn (is_wanted companies) c.in_ok-ahead.ahead turns) (sym all) added.are)
