-- A spot that has been looked at waits no more, and once none waits what is marked holds all walks.
use Rattle.std.proofs.Common.{◌≡◌, ◌+◌, ◌-◌, ◌*◌, ◌<◌, ◌≤◌, List, [], ◌∷◌, ◌++◌, Bool, inl, refl, length}
use Rattle.std.proofs.Common.{ap, sym, subst, arith, length-append}
use Rattle.std.proofs.lemmas.List.Sums.{count_by-le-length}
use Rattle.map_tables.specs.declared.track.Link.{Link}
use Rattle.reach.specs.Position.{Position}
use Rattle.reach.specs.Search.{AreLookedAt, Waits, marked}
use Rattle.reach.specs.declared.walk.Spot.{Spot}
use Rattle.reach.proofs.Looking.{all_looked_at, all_taken, looked_on}
use Rattle.reach.proofs.Marking.{waits_end}
use Rattle.reach.proofs.search.search.Goals as goal
use Rattle.tables.specs.declared.roster.Company.{Company}

pub loop-spot-init : goal.loop-spot-init
loop-spot-init g c =
    record {
      arrive = c.requires.arrive;
      tokens = c.requires.tokens;
      looked = record {
        known = c.requires.wait.known;
        looked = λ spot is. inl (c.requires.wait.all spot is);
      };
      taken = λ none link is. absurd (none link is);
    }

pub look-requires-clause-arrived : goal.look-requires-clause-arrived
look-requires-clause-arrived g c =
    c.loop-spot.invariant.looked.known c.in-Some.spot
    (subst (λ w. Waits w c.in-Some.spot) (sym c.in-Some.ensures)
    (waits_end c.pop.new.self c.in-Some.spot c.in-Some.spot refl))

pub loop-spot-preserved : goal.loop-spot-preserved
loop-spot-preserved g c =
    let position = g.N.Network.position c.args.network.now in
    let old = c.loop-spot.marks.marks in
    record {
      arrive = c.in_ok-look.ensures.arrive c.loop-spot.invariant.arrive;
      tokens = λ spot stop is token. c.in_ok-look.ensures.kept spot (c.loop-spot.invariant.tokens spot stop is token);
      looked = looked_on position c.args.company c.pop.new.self c.in-Some.spot old _ _ _ _
          (subst (λ w. AreLookedAt position c.args.company old w (g.K.Keeper.keeps c.loop-spot.keeper))
          c.in-Some.ensures c.loop-spot.invariant.looked)
          c.in_ok-look.ensures;
      taken = λ none. c.in_ok-look.ensures.taken (c.loop-spot.invariant.taken none);
    }

-- what is left to do is less: a spot waits no more, and each that waits again is marked again
less : (old new : List Bool) (rest before waiting : List Spot) (spot : Spot) → length new ≡ length old
    → marked old ≤ marked new → length waiting + marked old ≡ length rest + marked new → before ≡ rest ++ spot ∷ []
    → 2 * (length new - marked new) + length waiting < 2 * (length old - marked old) + length before
less old new rest before waiting spot same grown balance is =
    omega (arith, ap length is, length-append rest (spot ∷ []), count_by-le-length (λ mark. mark) new)

pub loop-spot-smaller : goal.loop-spot-smaller
loop-spot-smaller g c =
    less c.loop-spot.marks.marks c.look.new.marks.marks c.pop.new.self _ c.look.new.marks.waiting
    c.in-Some.spot
    c.in_ok-look.ensures.length_kept c.in_ok-look.ensures.grown c.in_ok-look.ensures.balance c.in-Some.ensures

-- where none waits all that is marked was looked at
none_waits : (position : Position) (company : Company) (marks : List Bool) (kept : Link → Type 0)
    (waiting : List Spot) → waiting ≡ [] → AreLookedAt position company marks waiting kept
    → AreLookedAt position company marks [] kept
none_waits position company marks kept waiting none looked =
    subst (λ w. AreLookedAt position company marks w kept) none looked

pub returns-clause-closed : goal.returns-clause-closed
returns-clause-closed g c =
    let position = g.N.Network.position c.args.network.now in
    let keeps = g.K.Keeper.keeps c.loop-spot.keeper in
    all_looked_at position c.args.company c.requires.lawful c.loop-spot.marks.marks keeps
    (none_waits position c.args.company _ keeps _ c.in_default.ensures.0 c.loop-spot.invariant.looked)

pub returns-clause-taken : goal.returns-clause-taken
returns-clause-taken g c none =
    let position = g.N.Network.position c.args.network.now in
    let keeps = g.K.Keeper.keeps c.loop-spot.keeper in
    all_taken position c.args.company c.requires.lawful c.loop-spot.marks.marks keeps
    (none_waits position c.args.company _ keeps _ c.in_default.ensures.0 c.loop-spot.invariant.looked)
    (c.loop-spot.invariant.taken none)
