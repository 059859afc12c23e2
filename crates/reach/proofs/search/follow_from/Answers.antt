-- The link in hand comes after those before it.
use Rattle.std.proofs.Common.{◌≡◌, ℕ, ◌+◌, ◌<◌, ◌≤◌, ◌⊎◌, inl, inr, List, length, get_or, take, ap, ◌∙◌, subst, sym}
use Rattle.std.proofs.Common.{arith}
use Rattle.std.proofs.lemmas.List.{take_all}
use Rattle.map_tables.specs.declared.hex.Hex.{Hex}
use Rattle.map_tables.specs.declared.track.Link.{Link}
use Rattle.reach.specs.Lawful.{IsLawful}
use Rattle.reach.specs.Position.{Position, IsAmong, links_of}
use Rattle.reach.specs.Search.{IsEnteredAt}
use Rattle.reach.specs.declared.walk.Spot.{Spot}
use Rattle.reach.specs.declared.walk.WalkStep.{WalkStep}
use Rattle.reach.proofs.Collected.{lies_there, own_hex}
use Rattle.reach.proofs.Lists.{among_at, among_next}
use Rattle.reach.proofs.Marking.{can_still, spreads_fewer, spreads_none, spreads_on}
use Rattle.reach.proofs.search.follow_from.Goals as goal

-- an element of the links of a hex is track
element : (position : Position) → IsLawful position → (hex : Hex) (links : List Link) → links ≡ links_of position hex
    → (i : ℕ) (d : Link) → i < length links → IsAmong (get_or links i d) (links_of position (get_or links i d).hex)
element position lawful hex links is i d low =
    own_hex position lawful hex (get_or links i d)
    (subst (λ ls. IsAmong (get_or links i d) ls) is (among_at links i d low))

-- and lies there
there : (position : Position) → IsLawful position → (hex : Hex) (links : List Link) → links ≡ links_of position hex
    → (i : ℕ) (d : Link) → i < length links → (get_or links i d).hex ≡ hex
there position lawful hex links is i d low =
    lies_there hex (links_of position hex) (get_or links i d) (lawful.links hex).here
    (subst (λ ls. IsAmong (get_or links i d) ls) is (among_at links i d low))

pub loop-link-init : goal.loop-link-init
loop-link-init g c =
    spreads_none (g.N.Network.position c.args.network.now) c.args.company _ _ _ _ (λ step none. none.0)

pub follow_both-requires-clause-track : goal.follow_both-requires-clause-track
follow_both-requires-clause-track g c =
    element (g.N.Network.position c.args.network.now) c.requires.lawful c.args.at.hex c.as_slice-link-items.result.now
    (c.as_slice-link-items.ensures.value ∙ c.links-links.ensures) c.loop-link.link-index _ c.loop-link-test.true

pub follow_both-requires-clause-here : goal.follow_both-requires-clause-here
follow_both-requires-clause-here g c =
    there (g.N.Network.position c.args.network.now) c.requires.lawful c.args.at.hex c.as_slice-link-items.result.now
    (c.as_slice-link-items.ensures.value ∙ c.links-links.ensures) c.loop-link.link-index _ c.loop-link-test.true

pub follow_both-requires-clause-may : goal.follow_both-requires-clause-may
follow_both-requires-clause-may g c =
    can_still (g.N.Network.position c.args.network.now) c.args.company _ _ c.loop-link.invariant.kept c.args.at
    c.requires.may

-- a link of one more is of those before, or the next
next : (links : List Link) (all : List Link) → links ≡ all → (i : ℕ) (d : Link) → i < length links
    → (at : Spot) (taken : WalkStep) → IsAmong taken.link (take (i + 1) all) × IsEnteredAt at taken
    → (IsAmong taken.link (take i all) × IsEnteredAt at taken)
    ⊎ ((taken.link ≡ get_or links i d) × IsEnteredAt at taken)
next links all is i d low at taken both =
    elim (among_next links i taken.link d low (subst (λ ls. IsAmong taken.link (take (i + 1) ls)) (sym is) both.0)) [
      | inl before ↦ inl (subst (λ ls. IsAmong taken.link (take i ls)) is before, both.1)
      | inr here ↦ inr (here, both.1)
    ]

pub loop-link-preserved : goal.loop-link-preserved
loop-link-preserved g c =
    let position = g.N.Network.position c.args.network.now in
    spreads_on position c.args.company _ _ _ _ _ _ _ _ _ _ _ _ c.loop-link.invariant c.in_ok-follow_both.ensures
    (next c.as_slice-link-items.result.now (links_of position c.args.at.hex)
    (c.as_slice-link-items.ensures.value ∙ c.links-links.ensures) c.loop-link.link-index _ c.loop-link-test.true
    c.args.at)

-- the links of the hex
whole : (links all : List Link) → links ≡ all → (i : ℕ) → length links ≤ i → (at : Spot) (taken : WalkStep)
    → IsAmong taken.link all × IsEnteredAt at taken → IsAmong taken.link (take i all) × IsEnteredAt at taken
whole links all is i come at taken both =
    (subst (λ ls. IsAmong taken.link ls) (sym (take_all i all (omega (arith, ap length is)))) both.0, both.1)

pub returns : goal.returns
returns g c =
    let position = g.N.Network.position c.args.network.now in
    spreads_fewer position c.args.company _ _ _ _ _ _ _ _ c.loop-link.invariant
    (whole c.as_slice-link-items.result.now (links_of position c.args.at.hex)
    (c.as_slice-link-items.ensures.value ∙ c.links-links.ensures) c.loop-link.link-index c.loop-link-test.false
    c.args.at)
