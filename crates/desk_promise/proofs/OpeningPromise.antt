-- The rows of an opening that is awaited are as the reports say.
use Rattle.std.proofs.Common.{◌≡◌, ℕ, zero, suc, ◌+◌, Bool, true, false, List, [], ◌∷◌, ◌++◌, Option, None}
use Rattle.std.proofs.Common.{is_none, is_some, refl, sym, ap, subst, ◌∙◌, arith}
use Rattle.std.specs.Prelude.{if◌then◌else◌, nat_lt}
use Rattle.desk_promise.proofs.Longer.{by_opening_close}
use Rattle.desk_promise.proofs.Moved.{only_opening}
use Rattle.desk_promise.proofs.Names.{ReadWhereSpelt}
use Rattle.desk_promise.proofs.Ruled.{by_opening_line}
use Rattle.desk_promise.proofs.SheetHead.{SpellingIsRead}
use Rattle.desk_promise.proofs.StockPromise.{each_mapped}
use Rattle.desk_promise.proofs.TurnPromise.{no_standing_lines, turn_reported}
use Rattle.desk_promise.proofs.TurnSheets.{OneIsPlain, ReadAgain, line_at}
use Rattle.desk_promise.specs.LineFile.{IsOfTurns, line_file, turn_of_one}
use Rattle.desk_promise.specs.TurnRows.{IsAsReported, OpeningRowsAreReported}
use Rattle.events.specs.Event.{ownership_of}
use Rattle.events.specs.declared.event.Event.{Event}
use Rattle.events.specs.declared.event.Event.TheVariants as event
use Rattle.events.specs.declared.ruling.Refusal.{Refusal}
use Rattle.foresight.proofs.ReachedLemmas.{opening_goes_on}
use Rattle.foresight.specs.FirstTurn.{after_passes, seat_after}
use Rattle.foresight.specs.Reached.{HeadsAreReached}
use Rattle.moves.specs.OpeningRows.{opening_answer, opening_orders, opening_row}
use Rattle.moves.specs.RowLaws.{OpeningRowsAreRuled, rule_told}
use Rattle.order_grammar.specs.declared.order.Order.TheVariants.{Play}
use Rattle.order_grammar.specs.declared.play.PlayOrder.{PlayOrder}
use Rattle.privates.specs.Turn.{all_sold, opening_line_ruling, opening_refusal, opening_rules}
use Rattle.rounds.proofs.Coming.{comes_in_sequence}
use Rattle.rounds.proofs.OneGame.{EachOpeningEnds, OneOpeningRound, OneStockRound}
use Rattle.rounds.specs.Begun.{RoundsOnlyAdd}
use Rattle.rounds.specs.OperatingRound.{OneOperatingRound}
use Rattle.rounds.specs.Play.{AreRounds, Between, before_play}
use Rattle.rounds.specs.ReadAlike.{SameSheetsAreReadAlike}
use Rattle.rounds.specs.Sequence.{following}
use Rattle.rounds.specs.declared.following.Next.TheVariants as next
use Rattle.sheets.specs.Laws.{ThreeToSixPlay}
use Rattle.tables.specs.Roster.{privates}
use Rattle.tables.specs.declared.roster.Private.{Private}
use Rattle.tables.specs.declared.round.Round.{Round}
use Rattle.tables.specs.declared.round.Round.TheVariants.{Opening, Stock, Operating}
use Rattle.tables.specs.declared.seat.Seat.{Seat}
use Rattle.totals.proofs.EventAtEnd.{last_said_before}
use Rattle.totals.specs.LookBack.{broken_in, first_unsold, is_sold, owner_said, priority_of}
use Rattle.turns.specs.Acted.{TurnsSayWhoActed}
use Rattle.turns.specs.RoundOfTurns.{in_turn}
use Rattle.turns.specs.Ruling.{judged}

-- what is sold is sold, and nothing else
sold_alike : (old new : List Event) → ((private : Private) → is_sold new private ≡ is_sold old private)
    → (them : List Private) → first_unsold (is_sold new) them ≡ first_unsold (is_sold old) them
sold_alike old new same [] = refl
sold_alike old new same (private ∷ others) = grind (arith, same private, sold_alike old new same others)

-- a round that begins sells nothing
begun_unsold : (events : List Event) (round : Round) → all_sold (events ++ event.Round round ∷ []) ≡ all_sold events
begun_unsold events round =
    let behind : List Event = events ++ event.Round round ∷ [] in
    ap is_none (sold_alike events behind
    (λ private. ap is_some (last_said_before (λ event. owner_said private (ownership_of event)) behind events
    (event.Round round) refl refl)) privates)

-- nor do passes
passes_unsold : (seats : ℕ) (first : Seat) (events : List Event) (count : ℕ)
    → all_sold (after_passes seats first events count) ≡ all_sold events
passes_unsold seats first events zero = refl
passes_unsold seats first events (suc count) =
    opening_goes_on (after_passes seats first events count) (seat_after seats first count)
    ∙ passes_unsold seats first events count

-- an opening comes while privates are unsold
comes_unsold : (round : Round) (in_set : ℕ) (all broken : Bool) (number : ℕ)
    → following round in_set all broken ≡ next.Round (Opening number) → all ≡ false
comes_unsold (Opening before) in_set true broken number comes = absurd (cc)
comes_unsold (Opening before) in_set false broken number comes = refl
comes_unsold (Stock set) in_set all broken number comes = absurd (cc)
comes_unsold (Operating set its) in_set all broken number comes =
    elim (nat_lt its in_set) as (λ (more : Bool). (if more then next.Round (Operating set (its + 1)) else
    (if broken then next.Ended else next.Round (Stock (set + 1)))) ≡ next.Round (Opening number) → all ≡ false) [
      | true ↦ λ wrong. absurd (cc)
      | false ↦ elim broken as (λ (b : Bool). (if b then next.Ended else next.Round (Stock (set + 1)))
          ≡ next.Round (Opening number) → all ≡ false) [
            | true ↦ λ wrong. absurd (cc)
            | false ↦ λ wrong. absurd (cc)
          ]
    ]
    comes

awaited_unsold : (file : List ℕ) (count : ℕ) (last : Between) (number : ℕ) → AreRounds file count (before_play file) last
    → last.next ≡ next.Round (Opening number) → all_sold last.game.events ≡ false
awaited_unsold file zero last number played comes =
    ap (λ (there : Between). all_sold there.game.events) (sym played)
awaited_unsold file (suc count) last number played comes =
    comes_unsold played.2.round played.0.in_set (all_sold last.game.events) (broken_in last.game.events) number
    (comes_in_sequence played.2.round (Opening number) played.0.in_set last.game.events (sym played.2.next_then ∙ comes))

pub opening_rows_reported : ReadWhereSpelt → SpellingIsRead → ReadAgain → OneIsPlain → SameSheetsAreReadAlike → RoundsOnlyAdd
    → ThreeToSixPlay → OneOpeningRound → OneStockRound → OneOperatingRound → EachOpeningEnds
    → TurnsSayWhoActed opening_rules → HeadsAreReached opening_rules → OpeningRowsAreRuled → OpeningRowsAreReported
opening_rows_reported spelt is_read again plain alike adds players one_opening one_stock one_operating ends say reached rows
    file last number seat turn accepted end plays comes its own head =
    let round : Round = Opening number in
    let unsold : all_sold (last.game.events ++ event.Round round ∷ []) ≡ false =
    begun_unsold last.game.events round ∙ awaited_unsold file plays.rounds last number plays.reached comes in
    let still : all_sold turn.history.events ≡ false =
    ap all_sold head.there.passed
    ∙ passes_unsold last.game.seats (priority_of last.game.seats last.game.events) (last.game.events ++ event.Round round ∷ []) head.there.count ∙ unsold
    in
    each_mapped (IsAsReported file last.game round seat) (opening_row turn.history seat turn.used)
    (λ (order : PlayOrder) (fit : IsOfTurns order) also text report.
    let told : Bool → Option Refusal = λ (used : Bool). rule_told (opening_answer turn.history seat used (Play order)) in
    let law : opening_line_ruling turn.history.seats seat (in_turn turn.history.events false) (line_at 2 (Play order))
    ≡ judged None (Play order) (told false) =
    rows turn.history seat false (line_at 2 (Play order)) (Play order) refl (record { read = refl; met = refl })
    in
    let ruled : opening_line_ruling last.game.seats seat (in_turn turn.history.events false) (line_at 2 (Play order))
    ≡ judged None (Play order) (told turn.used) =
    subst (λ (seats : ℕ). opening_line_ruling seats seat (in_turn turn.history.events false) (line_at 2 (Play order))
    ≡ judged None (Play order) (told turn.used)) head.seats
    (law ∙ ap (λ (used : Bool). judged None (Play order) (told used)) (sym head.unused))
    in
    let ended = ends (line_file file round seat (turn_of_one order)) round last.game in
    let on = ap all_sold (no_standing_lines spelt is_read again plain file accepted end round tt its seat own order fit also
    opening_rules.standing (last.game.events ++ event.Round round ∷ [])) ∙ unsold in
    let seats : ℕ = turn.history.seats in
    let done = by_opening_line last.game.seats seat (in_turn turn.history.events false) (line_at 2 (Play order)) order
    (opening_refusal seats turn.history.events seat turn.used (Play order))
    (only_opening seats turn.history.events seat turn.used order fit) ruled in
    record {
      moved = done.moved;
      as_told = done.as_told;
      reported =
          turn_reported spelt is_read again plain file accepted end round tt its seat own order fit also
          alike adds players one_opening one_stock one_operating last plays comes opening_rules say by_opening_close
          reached turn.history.events head.there on still (judged None (Play order) (told turn.used)) done.moved
          done.goes_on ended.new ended.played ended.played text report;
    })
    (opening_orders turn.history.events)
