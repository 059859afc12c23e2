-- A step leads on where it is left at another stop, or where one of the steps that are entered
-- beyond leads on.
use Rattle.std.proofs.Common.{◌≡◌, true, false, Some, None, List, [], length, take, refl, ap, sym, ◌∙◌, subst, arith}
use Rattle.std.proofs.lemmas.List.{take_all}
use Rattle.map_tables.specs.declared.track.Link.{Link}
use Rattle.reach.specs.Position.{IsAmong, Position, links_of}
use Rattle.reach.specs.Walk.{across, left_at, stop_of}
use Rattle.reach.specs.declared.walk.Spot.{Spot}
use Rattle.reach.proofs.Lists.{among_at}
use Rattle.legal_runs.specs.TwoTrain.{LeadsFrom, crossing}
use Rattle.legal_runs.proofs.TwoTrain.{leads_nowhere, leads_over, leads_over_none, leads_to_stop}
use Rattle.legal_runs.proofs.TwoTrain.{one_link_more, over_leads}
use Rattle.legal_runs.proofs.two_train.+track.Goals as goal

pub leads_on-returns-in-Some : goal.leads_on-returns-in-Some
leads_on-returns-in-Some g t c =
    let position : Position = g.N.Network.position c.args.network.now in
    let is : stop_of (left_at c.args.step) ≡ Some c.in-Some.stop =
    sym (c.stop.ensures ∙ ap stop_of c.left-left.ensures) ∙ c.in-Some.is in (
      λ other. ([], (c.in-Some.stop, is, c.is_other.ensures.0 other)),
      λ leads. c.is_other.ensures.1 (leads_to_stop position c.args.start c.args.used.now c.args.step c.in-Some.stop is
          leads),
    )

pub leads_on-returns-in_default-across : goal.leads_on-returns-in_default-across
leads_on-returns-in_default-across g t c =
    let none : stop_of (left_at c.args.step) ≡ None =
    sym (c.stop.ensures ∙ ap stop_of c.left-left.ensures) ∙ c.in_default.is in
    let over : across (left_at c.args.step) ≡ None =
    sym (c.across.ensures ∙ ap across c.left-left.ensures) ∙ c.in_default-across.is in (
      λ wrong. absurd cc,
      λ leads. absurd (leads_nowhere (g.N.Network.position c.args.network.now) c.args.start
          c.args.used.now c.args.step none over leads),
    )

pub leads_on-returns-in_default-over : goal.leads_on-returns-in_default-over
leads_on-returns-in_default-over g t c =
    let none : stop_of (left_at c.args.step) ≡ None =
    sym (c.stop.ensures ∙ ap stop_of c.left-left.ensures) ∙ c.in_default.is in
    let over : across (left_at c.args.step) ≡ Some c.in-Some-across.next =
    sym (c.across.ensures ∙ ap across c.left-left.ensures) ∙ c.in-Some-across.is in
    let closed : crossing c.args.used.now c.in-Some-across.next ≡ None =
    sym c.over.ensures.crossing ∙ c.in_default-over.is in (
      λ wrong. absurd cc,
      λ leads. absurd (leads_over_none (g.N.Network.position c.args.network.now) c.args.start
          c.args.used.now c.args.step none c.in-Some-across.next over closed leads),
    )

pub leads_on-leads_by_link-requires : goal.leads_on-leads_by_link-requires
leads_on-leads_by_link-requires g t c = grind arith

pub leads_on-returns-then-leads_by_link : goal.leads_on-returns-then-leads_by_link
leads_on-returns-then-leads_by_link g t c =
    let position : Position = g.N.Network.position c.args.network.now in
    let next : Spot = c.in-Some-across.next in
    let none : stop_of (left_at c.args.step) ≡ None =
    sym (c.stop.ensures ∙ ap stop_of c.left-left.ensures) ∙ c.in_default.is in
    let over : across (left_at c.args.step) ≡ Some next =
    sym (c.across.ensures ∙ ap across c.left-left.ensures) ∙ c.in-Some-across.is in
    let found = c.leads_by_link.ensures.0 c.if-leads_by_link.true in
    let here : List Link = c.as_slice-link-items.result.now in
    let is : here ≡ links_of position next.hex = c.as_slice-link-items.ensures.value ∙ c.links-links.ensures in
    let among : IsAmong found.0.link (links_of position next.hex) =
    subst (λ (ls : List Link). IsAmong found.0.link ls) is
    (subst (λ (link : Link). IsAmong link here) (sym found.1)
    (among_at here c.loop-link.link-index _ c.loop-link-test.true)) in (
      λ yes. over_leads position c.args.start c.args.used.now c.args.step none next over _
          (sym c.over.ensures.crossing ∙ c.in-Some-over.is) found.0 among found.2.0 found.2.1,
      λ leads. refl,
    )

pub leads_on-loop-link-preserved : goal.leads_on-loop-link-preserved
leads_on-loop-link-preserved g t c =
    let position : Position = g.N.Network.position c.args.network.now in
    let next : Spot = c.in-Some-across.next in
    let here : List Link = c.as_slice-link-items.result.now in
    let is : here ≡ links_of position next.hex = c.as_slice-link-items.ensures.value ∙ c.links-links.ensures in
    one_link_more (LeadsFrom position c.args.start c.in-Some-over.crossing next) here (links_of position next.hex) is
    c.loop-link.link-index _ c.loop-link-test.true c.loop-link.invariant
    (λ found. let wrong : true ≡ false = sym (c.leads_by_link.ensures.1 found) ∙ c.if-leads_by_link.false in cc)

pub leads_on-returns : goal.leads_on-returns
leads_on-returns g t c =
    let position : Position = g.N.Network.position c.args.network.now in
    let next : Spot = c.in-Some-across.next in
    let none : stop_of (left_at c.args.step) ≡ None =
    sym (c.stop.ensures ∙ ap stop_of c.left-left.ensures) ∙ c.in_default.is in
    let over : across (left_at c.args.step) ≡ Some next =
    sym (c.across.ensures ∙ ap across c.left-left.ensures) ∙ c.in-Some-across.is in
    let here : List Link = c.as_slice-link-items.result.now in
    let is : here ≡ links_of position next.hex = c.as_slice-link-items.ensures.value ∙ c.links-links.ensures in (
      λ wrong. absurd cc,
      λ leads.
          let found = leads_over position c.args.start c.args.used.now c.args.step none next over _
          (sym c.over.ensures.crossing ∙ c.in-Some-over.is) leads in
          let whole : take c.loop-link.link-index (links_of position next.hex) ≡ links_of position next.hex =
          take_all c.loop-link.link-index (links_of position next.hex)
          (omega (arith, c.loop-link-test.false, ap length is)) in
          absurd (c.loop-link.invariant found.0 (subst (λ (ls : List Link). IsAmong found.0.link ls) (sym whole)
          found.1) (found.2, found.3)),
    )

pub leads_by_link-returns-then-leads_from : goal.leads_by_link-returns-then-leads_from
leads_by_link-returns-then-leads_from g t c = grind arith

pub leads_by_link-returns-else-leads_from : goal.leads_by_link-returns-else-leads_from
leads_by_link-returns-else-leads_from g t c = grind arith
