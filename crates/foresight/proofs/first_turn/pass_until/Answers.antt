use Rattle.std.proofs.Common.{◌≡◌, ◌<◌, ◌+◌, ◌++◌, ◌∷◌, [], ℕ, List, suc, refl, ap, sym, subst, ◌∙◌, arith}
use Rattle.std.proofs.lemmas.Bool.Decides.{nat_tests}
use Rattle.foresight.proofs.Passing.{distance, distance_few, left_within, nearer}
use Rattle.foresight.specs.FirstTurn.{after_passes}
use Rattle.events.specs.declared.event.Event.{Event}
use Rattle.events.specs.declared.event.Event.TheVariants as event
use Rattle.tables.specs.Seat.{left_of}
use Rattle.tables.specs.declared.seat.Seat.{Seat}
use Rattle.totals.specs.LookBack.{Game}
use Rattle.foresight.proofs.first_turn.pass_until.Goals as goal

pub loop-seat-init : goal.loop-seat-init
loop-seat-init g c =
    let its = c.requires.at_table in
    let few = distance_few c.args.history.now.seats c.args.first.0 c.args.seat.0 c.requires.first its in
    record {
      count = 0;
      its = refl;
      few = omega (arith, few);
      passed = refl;
      at_table = c.requires.first;
      seats = refl;
      underway = c.requires.underway;
    }

pub loop-seat-smaller : goal.loop-seat-smaller
loop-seat-smaller g c =
    let seats : ℕ = c.args.history.now.seats in
    let before = c.loop-seat.invariant in
    let left : c.left-next.result ≡ left_of seats c.loop-seat.next =
    c.left-next.ensures ∙ ap (λ (count : ℕ). left_of count c.loop-seat.next) c.seats-seats.ensures in
    let near = nearer seats c.loop-seat.next c.args.seat.0 c.requires.few before.at_table c.requires.at_table
    (λ same. grind (arith, nat_tests, same, c.index.ensures.value, c.index-in-loop-seat.ensures.value, c.loop-seat-test.true))
    in
    subst (λ (seat : Seat). distance seats seat.0 c.args.seat.0 < distance seats c.loop-seat.next.0 c.args.seat.0)
    (sym left) (omega (arith, near))

pub loop-seat-preserved : goal.loop-seat-preserved
loop-seat-preserved g c =
    let old : Game = c.args.history.now in
    let before = c.loop-seat.invariant in
    let left : c.left-next.result ≡ left_of old.seats c.loop-seat.next =
    c.left-next.ensures ∙ ap (λ (count : ℕ). left_of count c.loop-seat.next) c.seats-seats.ensures in
    let near = nearer old.seats c.loop-seat.next c.args.seat.0 c.requires.few before.at_table c.requires.at_table
    (λ same. grind (arith, nat_tests, same, c.index.ensures.value, c.index-in-loop-seat.ensures.value, c.loop-seat-test.true))
    in
    let few = before.few in
    record {
      count = suc before.count;
      its = ap (left_of old.seats) before.its ∙ sym left;
      few = subst (λ (seat : Seat). suc before.count + distance old.seats seat.0 c.args.seat.0 < old.seats) (sym left)
          (omega (arith, near, few));
      passed = ap (λ (game : Game). game.events) c.in_ok-pass.ensures.event
          ∙ ap (λ (events : List Event). events ++ event.Passes c.loop-seat.next ∷ []) before.passed
          ∙ ap (λ (seat : Seat).
          after_passes old.seats c.args.first old.events before.count ++ event.Passes seat ∷ []) (sym before.its);
      at_table = subst (λ (seat : Seat). seat.0 < old.seats) (sym left)
          (left_within old.seats c.loop-seat.next c.requires.few before.at_table);
      seats = ap (λ (game : Game). game.seats) c.in_ok-pass.ensures.event ∙ before.seats;
      underway = c.in_ok-pass.ensures.underway;
    }
