-- Each leg that leads on adds a way to those found, and together they are all ways on.
use Rattle.std.proofs.Common.{◌≡◌, ℕ, ◌+◌, true, Some, List, length, get_or, slice_get, refl, sym}
use Rattle.std.proofs.Common.{ap, subst, ◌∙◌, arith}
use Rattle.std.proofs.lemmas.Option.{slice_get_read}
use Rattle.best_run.specs.declared.lookahead.Outlook.{Outlook}
use Rattle.best_run.specs.declared.ways_on.WaysOn.{WaysOn}
use Rattle.search_task.specs.declared.task.Leg.{Leg}
use Rattle.best_run.specs.Ahead.{WidensAt}
use Rattle.best_run.specs.WaysOn.{AreFound}
use Rattle.search_task.specs.Spots.{ends_in, node_at, stop_in}
use Rattle.search_task.specs.Legs.{AreLegsOf, legs_at, legs_in}
use Rattle.best_run.proofs.Along.{leg_fits}
use Rattle.best_run.proofs.Vain.{found_all, found_more, found_skip}
use Rattle.search_task.proofs.Booleans.{not_both}
use Rattle.search_task.proofs.Described.{among_place}
use Rattle.best_run.proofs.ways_on.look_on.Goals as goal
use Rattle.best_run.proofs.ways_on.look_on.Goals.{then-leads_on, else-leads_on}

pub returns-then-node-clause-most : goal.returns-then-node-clause-most
returns-then-node-clause-most c =
    let task = c.args.bounded.now.task.now in
    let run = c.args.run.now in
    let node = c.node.ensures.node in
    found_all task c.is_ready.ensures.fit c.is_ready.ensures.ready c.args.assigned.now run c.args.best c.requires.may.at_stop
    c.requires.may.begun c.requires.home.borders c.requires.home.spots c.args.home.now.ahead c.ways_home-ways.result 0
    (λ passing. absurd (not_both (ends_in (node_at task run.head)) (ap ends_in node ∙ c.if-node.true) passing))
    c.ways_home-ways.ensures

pub leads_on-requires : goal.leads_on-requires
leads_on-requires c =
    let task = c.args.bounded.now.task.now in
    let run = c.args.run.now in
    let from = c.departures-from.result.now in
    let legs = from.legs.items in
    let leg = c.index-legs-index.result in
    let whole = c.as_slice-legs.ensures.value in
    let read = c.index-legs-index.is ∙ ap (λ (ws : List Leg). get_or ws c.loop-index.index leg) whole in
    let are : AreLegsOf task run.head legs = c.is_ready.ensures.ready.each run.head from c.departures-from.ensures c.requires.may.at_stop.1 in
    let at : slice_get legs c.loop-index.index ≡ Some leg =
    slice_get_read legs (length legs) c.loop-index.index leg refl
    (omega (arith, ap (λ (ws : List Leg). length ws) whole)) read in
    let fits = leg_fits task c.is_ready.ensures.fit run.head legs are c.requires.may.at_stop.1 leg
    (among_place legs c.loop-index.index leg at) in
    fits.1

pub look_at-requires-clause-stop : goal.look_at-requires-clause-stop
look_at-requires-clause-stop c =
    let task = c.args.bounded.now.task.now in
    let run = c.args.run.now in
    let from = c.departures-from.result.now in
    let legs = from.legs.items in
    let leg = c.index-legs-index.result in
    let whole = c.as_slice-legs.ensures.value in
    let read = c.index-legs-index.is ∙ ap (λ (ws : List Leg). get_or ws c.loop-index.index leg) whole in
    let are : AreLegsOf task run.head legs = c.is_ready.ensures.ready.each run.head from c.departures-from.ensures c.requires.may.at_stop.1 in
    let at : slice_get legs c.loop-index.index ≡ Some leg =
    slice_get_read legs (length legs) c.loop-index.index leg refl
    (omega (arith, ap (λ (ws : List Leg). length ws) whole)) read in
    let fits = leg_fits task c.is_ready.ensures.fit run.head legs are c.requires.may.at_stop.1 leg
    (among_place legs c.loop-index.index leg at) in
    subst (λ (to : ℕ). stop_in (node_at task to) ≡ true) (sym c.number.ensures) fits.1

pub loop-index-preserved : goal.loop-index-preserved
loop-index-preserved c =
    let task = c.args.bounded.now.task.now in
    let assigned = c.args.assigned.now in
    let run = c.args.run.now in
    let home = c.args.home.now.ahead in
    let from = c.departures-from.result.now in
    let legs = from.legs.items in
    let leg = c.index-legs-index.result in
    let whole = c.as_slice-legs.ensures.value in
    let read = c.index-legs-index.is ∙ ap (λ (ws : List Leg). get_or ws c.loop-index.index leg) whole in
    let at : slice_get legs c.loop-index.index ≡ Some leg =
    slice_get_read legs (length legs) c.loop-index.index leg refl
    (omega (arith, ap (λ (ws : List Leg). length ws) whole)) read in
    let there : legs_at task run.head ≡ legs = ap legs_in
    (c.departures-from.ensures) in
    let here = ap (λ ws. slice_get ws c.loop-index.index) there ∙ at in
    let Found : WaysOn → Type 0 = AreFound task assigned run c.args.best home (c.loop-index.index + 1) in
    elim c.if-leads_on.branch [
      | then-leads_on w ↦
          subst Found (sym w.ways-is)
          (found_more task c.is_ready.ensures.fit c.is_ready.ensures.ready assigned run c.args.best c.requires.may.at_stop c.requires.may.begun
          c.requires.home.borders c.requires.home.spots home w.look_at.new.outlook.ahead c.loop-index.index leg
          w.earns_too_little-in_vain.result c.loop-index.ways _ c.requires.home.closed here
          (subst (λ (to : ℕ). WidensAt task assigned run to home w.look_at.new.outlook.ahead) w.number.ensures
          (subst (λ (o : Outlook). WidensAt task assigned run w.number.result o.ahead w.look_at.new.outlook.ahead)
          w.copy-way.ensures w.look_at.ensures.widens))
          w.earns_too_little-in_vain.ensures w.add.ensures c.loop-index.invariant)
      | else-leads_on w ↦
          subst Found (sym w.ways-is)
          (found_skip task c.is_ready.ensures.fit c.is_ready.ensures.ready assigned run c.args.best c.requires.may.at_stop c.requires.may.begun
          c.requires.home.borders c.requires.home.spots home c.loop-index.index leg c.loop-index.ways here
          (sym c.leads_on.ensures ∙ w.if-leads_on.false) c.loop-index.invariant)
    ]

pub returns-clause-most : goal.returns-clause-most
returns-clause-most c =
    let task = c.args.bounded.now.task.now in
    let run = c.args.run.now in
    let from = c.departures-from.result.now in
    let there = ap legs_in
    (c.departures-from.ensures) in
    found_all task c.is_ready.ensures.fit c.is_ready.ensures.ready c.args.assigned.now run c.args.best c.requires.may.at_stop
    c.requires.may.begun c.requires.home.borders c.requires.home.spots c.args.home.now.ahead c.loop-index.ways c.loop-index.index
    (λ passing. omega (
      arith,
      ap (λ (ws : List Leg). length ws) there,
      ap (λ (ws : List Leg). length ws) c.as_slice-legs.ensures.value,
    )) c.loop-index.invariant
