use Rattle.std.proofs.Common.{List, subst}
use Rattle.std.proofs.lemmas.List.{take_all}
use Rattle.std.specs.List.{flat_map}
use Rattle.desk_check.proofs.SaidLemmas.{adds_none, adds_step}
use Rattle.desk_check.specs.SheetSaid.{Adds, game_of, silent_one}
use Rattle.tables.specs.Roster.{companies}
use Rattle.tables.specs.declared.roster.Company.{Company}
use Rattle.desk_check.proofs.check_reading.Reader.add_silent.Goals as goal

pub loop-company-init : goal.loop-company-init
loop-company-init c = adds_none c.args.found.now

pub loop-company-preserved : goal.loop-company-preserved
loop-company-preserved c =
    let reader = c.args.self.now in
    adds_step (silent_one (game_of reader) reader.sent c.args.head.now.line.number c.args.begun.now) companies
    c.loop-company.company-index _ _ _ _ c.loop-company-test.true c.loop-company.invariant
    c.in_ok-add_if_silent.ensures

pub returns : goal.returns
returns c =
    let reader = c.args.self.now in
    subst (λ (some : List Company). Adds c.args.found.now c.loop-company.found
    (flat_map (silent_one (game_of reader) reader.sent c.args.head.now.line.number c.args.begun.now) some))
    (take_all c.loop-company.company-index companies c.loop-company-test.false) c.loop-company.invariant
