use Rattle.std.proofs.Common.{◌≡◌, ◌<◌, ◌≤◌, ℕ, List, true, false, Some, map, refl, sym, subst, ap, ◌∙◌, arith}
use Rattle.events.specs.declared.event.Event.{Event}
use Rattle.sheets.specs.Part.{Numbered, written_turns_of}
use Rattle.tables.proofs.Steps.{leads_on, leads_to_end}
use Rattle.tables.proofs.Turns.{turns_most_falls}
use Rattle.tables.specs.Seat.{left_of, seat_at}
use Rattle.tables.specs.Turns.{InPlay, after_turn, turns_most, turns_over}
use Rattle.tables.specs.declared.seat.Seat.{Seat}
use Rattle.turns.proofs.Turns.{all_have_passed, going_on, left_within, no_lines, something_ends_them}
use Rattle.turns.specs.RoundOfTurns.{RoundRules, in_play, turns_of}
use Rattle.turns.proofs.playing.take_turns.Goals as goal

-- a seat's turn is one turn of the round
one_turn :
    {TurnActions : Type 0} (rules : RoundRules TurnActions) (seats same table : ℕ) (events after : List Event)
    (seat next passes counted : ℕ) (taker left : Seat) (written_turns new : List (List (List Numbered))) →
    same ≡ seats → seats ≡ table → taker ≡ seat_at seat → left ≡ left_of table taker → next ≡ left.0 →
    in_play after (left_of same (seat_at seat)).0 counted new
    ≡ after_turn (turns_of rules same) (in_play events seat passes written_turns) →
    in_play after next counted new ≡ after_turn (turns_of rules seats) (in_play events seat passes written_turns)
one_turn rules seats same table events after seat next passes counted taker left written_turns new is_same is_table is_taker
    is_left is_next turn =
    let at_left : next ≡ (left_of same (seat_at seat)).0 =
    is_next
    ∙ ap (λ (s : Seat). s.0) is_left
    ∙ ap (λ (s : Seat). (left_of table s).0) is_taker
    ∙ ap (λ (n : ℕ). (left_of n (seat_at seat)).0) (sym is_table ∙ sym is_same)
    in
    ap (λ (n : ℕ). in_play after n counted new) at_left
    ∙ turn
    ∙ ap (λ (n : ℕ). after_turn (turns_of rules n) (in_play events seat passes written_turns)) is_same

pub loop-passes-preserved : goal.loop-passes-preserved
loop-passes-preserved g c =
    let rules = g.T.TurnRules.rules in
    let seats = c.args.history.now.seats in
    let unended : rules.over c.loop-passes.history.events ≡ false = sym c.is_over.ensures ∙ c.if-not-is_over.true in
    let fewer : c.loop-passes.passes < seats = omega arith in
    let stepped = one_turn rules seats c.loop-passes.history.seats _ c.loop-passes.history.events
    c.play_turn.new.history.events c.loop-passes.seat c.index-seat.result c.loop-passes.passes
    c.in_ok-passes.passes c.at.result c.left.result (map written_turns_of c.loop-passes.unruled)
    (map written_turns_of c.play_turn.new.unruled) c.loop-passes.invariant.seats c.requires.seats c.at.ensures
    c.left.ensures c.index-seat.ensures.value c.in_ok-passes.ensures.turn in
    let some : 0 < seats = omega arith in
    let within : (left_of seats c.at.result).0 < seats = left_within seats (Some c.at.result) some in
    let next : c.index-seat.result ≡ (left_of seats c.at.result).0 =
    c.index-seat.ensures.value ∙ ap (λ (s : Seat). s.0) c.left.ensures
    ∙ ap (λ (n : ℕ). (left_of n c.at.result).0) (sym c.requires.seats)
    in
    record {
      seats = c.in_ok-passes.ensures.seats ∙ c.loop-passes.invariant.seats;
      each = c.in_ok-passes.ensures.each ∙ c.loop-passes.invariant.each;
      seat = let table = c.requires.seats in omega arith;
      passes = let counted = c.in_ok-passes.ensures.passes in let each = c.loop-passes.invariant.each in omega arith;
      leads = leads_on (after_turn (turns_of rules seats)) (turns_over (turns_of rules seats)) _ _ _
          c.loop-passes.invariant.leads (going_on (rules.over c.loop-passes.history.events) seats c.loop-passes.passes
          unended fewer) stepped;
      ready = c.in_ok-passes.ensures.ready;
      underway = c.in_ok-passes.ensures.underway;
    }

pub loop-passes-smaller : goal.loop-passes-smaller
loop-passes-smaller g c =
    let rules = g.T.TurnRules.rules in
    let seats = c.args.history.now.seats in
    let unended : rules.over c.loop-passes.history.events ≡ false = sym c.is_over.ensures ∙ c.if-not-is_over.true in
    let fewer : c.loop-passes.passes < seats = omega arith in
    let here : InPlay (List Event) Numbered = in_play c.loop-passes.history.events c.loop-passes.seat
    c.loop-passes.passes (map written_turns_of c.loop-passes.unruled) in
    let stepped = one_turn rules seats c.loop-passes.history.seats _ c.loop-passes.history.events
    c.play_turn.new.history.events c.loop-passes.seat c.index-seat.result c.loop-passes.passes
    c.in_ok-passes.passes c.at.result c.left.result (map written_turns_of c.loop-passes.unruled)
    (map written_turns_of c.play_turn.new.unruled) c.loop-passes.invariant.seats c.requires.seats c.at.ensures
    c.left.ensures c.index-seat.ensures.value c.in_ok-passes.ensures.turn in
    subst (λ (next : InPlay (List Event) Numbered). turns_most (turns_of rules seats) next
    < turns_most (turns_of rules seats) here) (sym stepped)
    (turns_most_falls (turns_of rules seats) here (no_lines rules seats g.met.T.TurnRules.idle)
    (going_on (rules.over c.loop-passes.history.events) seats c.loop-passes.passes unended fewer))

pub returns-else-not-is_over-clause-turns : goal.returns-else-not-is_over-clause-turns
returns-else-not-is_over-clause-turns g c =
    let rules = g.T.TurnRules.rules in
    let seats = c.args.history.now.seats in
    let done : rules.over c.loop-passes.history.events ≡ true = sym c.is_over.ensures ∙ c.if-not-is_over.false in
    record {
      last = in_play c.loop-passes.history.events c.loop-passes.seat c.loop-passes.passes
          (map written_turns_of c.loop-passes.unruled);
      turns = leads_to_end (after_turn (turns_of rules seats)) (turns_over (turns_of rules seats)) _ _
          c.loop-passes.invariant.leads (something_ends_them (rules.over c.loop-passes.history.events) seats
          c.loop-passes.passes done);
      events_then = refl;
      then_written_turns = refl;
    }

pub returns-after-loop-passes-clause-turns : goal.returns-after-loop-passes-clause-turns
returns-after-loop-passes-clause-turns g c =
    let rules = g.T.TurnRules.rules in
    let seats = c.args.history.now.seats in
    let all : seats ≤ c.loop-passes.passes = omega arith in
    record {
      last = in_play c.loop-passes.history.events c.loop-passes.seat c.loop-passes.passes
          (map written_turns_of c.loop-passes.unruled);
      turns = leads_to_end (after_turn (turns_of rules seats)) (turns_over (turns_of rules seats)) _ _
          c.loop-passes.invariant.leads (all_have_passed (rules.over c.loop-passes.history.events) seats
          c.loop-passes.passes all);
      events_then = refl;
      then_written_turns = refl;
    }
