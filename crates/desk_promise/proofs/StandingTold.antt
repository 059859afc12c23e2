-- The rows of standing lines are as the reports say.
use Rattle.std.proofs.Common.{◌≡◌, ℕ, ◌<◌, ◌==◌, Bool, true, List, [], ◌∷◌, ◌++◌, length, Option, Some, None, ℤ, pos}
use Rattle.std.proofs.Common.{refl, sym, ap, subst, ◌∙◌, arith}
use Rattle.std.specs.Int.Signed.{lt_z}
use Rattle.std.specs.Prelude.{◌||◌, not, option_map, unwrap_or}
use Rattle.std.specs.List.{range_with_len}
use Rattle.desk_promise.proofs.FirstTurn.{by_left, by_turns}
use Rattle.desk_promise.proofs.GameBefore.{is_posted, seats_kept}
use Rattle.desk_promise.proofs.LineFiles.{has_sheets}
use Rattle.desk_promise.proofs.Longer.{◌⨾◌, GoesOn, by_events, by_opening_close, by_revenues, stays}
use Rattle.desk_promise.proofs.CompanyPromise.{Laws}
use Rattle.desk_promise.proofs.OrdersReached as turns
use Rattle.desk_promise.proofs.PlayedReport.{played_reported}
use Rattle.desk_promise.proofs.RaisesTold.{told_rule}
use Rattle.desk_promise.proofs.StandingSheets.{one_standing_line, standing_lines_fit}
use Rattle.desk_promise.proofs.StockPromise.{each_mapped}
use Rattle.desk_promise.proofs.TurnPromise.{alone}
use Rattle.desk_promise.proofs.TurnSheets.{line_at}
use Rattle.desk_promise.specs.LineFile.{HasSheets, IsEnded, IsStanding, IsStandingIn, standing_of_one}
use Rattle.desk_promise.specs.Reported.{IsReportedNext}
use Rattle.desk_promise.specs.StandingRows.{IsStandingReported, StandingRowsAreReported, standing_file}
use Rattle.events.specs.declared.event.Event.{Event}
use Rattle.events.specs.declared.event.Event.TheVariants as event
use Rattle.events.specs.declared.event.Holder.{Holder}
use Rattle.events.specs.declared.ruling.OpeningRule.TheVariants.{Sold}
use Rattle.events.specs.declared.ruling.PrivateRule.TheVariants as private_rule
use Rattle.events.specs.declared.ruling.Refusal.{Refusal}
use Rattle.events.specs.declared.ruling.Refusal.TheVariants as refusal
use Rattle.events.specs.declared.ruling.Ruling.{Ruling}
use Rattle.events.specs.declared.ruling.TrainRule.TheVariants as train_rule
use Rattle.foresight.proofs.ReachedLemmas.{one_standing}
use Rattle.moves.specs.RowLaws.{RowsBeforeAreRuled, StandingRowsAreRuled, rule_told}
use Rattle.moves.specs.StandingRows.{before_answer, before_cost, before_row, limits, standing_answer, standing_orders, standing_row}
use Rattle.order_grammar.specs.Spells.{is_round_of_line}
use Rattle.order_grammar.specs.declared.order.Offer.TheVariants as offer
use Rattle.order_grammar.specs.declared.order.Order.TheVariants.{Play}
use Rattle.order_grammar.specs.declared.play.PlayOrder.{PlayOrder}
use Rattle.order_grammar.specs.declared.play.PlayOrder.TheVariants as play
use Rattle.privates.specs.Standing.{after_opening_standing_line, opening_standing_refusal, opening_standing_ruling}
use Rattle.privates.specs.Turn.{opening_rules}
use Rattle.purchases.proofs.TrainsAlike.{alike_at_end}
use Rattle.purchases.specs.Discard.{has_train, is_president}
use Rattle.purchases.specs.Standing.{after_operating_standing_line, operating_standing_judgement, operating_standing_ruling}
use Rattle.report.specs.Report.{IsReport}
use Rattle.rounds.proofs.OneGame.{EachOpeningEnds}
use Rattle.rounds.specs.OperatingRound.{left_events, operating_round_opened}
use Rattle.rounds.specs.Play.{Between, IsPlayed, Plays, before_play}
use Rattle.rounds.specs.declared.following.Next.TheVariants as next
use Rattle.sheets.specs.File.{IsAccepted, players_of, version_of}
use Rattle.sheets.specs.Part.{Numbered, SheetParts, parts_for, parts_of_sheet}
use Rattle.sheets.specs.Taken.{after_all_before, after_each}
use Rattle.tables.specs.Roster.{privates}
use Rattle.tables.specs.Rules.{first_broken}
use Rattle.tables.specs.Seat.{seat_at}
use Rattle.tables.specs.Turns.{InPlay}
use Rattle.tables.specs.declared.round.Round.{Round}
use Rattle.tables.specs.declared.round.Round.TheVariants.{Opening, Stock, Operating}
use Rattle.tables.specs.declared.seat.Seat.{Seat}
use Rattle.totals.proofs.EventAtEnd.{quiet_same}
use Rattle.totals.specs.AtEnd.{SaysTheSame}
use Rattle.totals.specs.LookBack.{Game, is_owner, with_event}
use Rattle.totals.specs.Shares.{president_of}
use Rattle.turns.specs.Acted.{TurnsSayWhoActed}
use Rattle.turns.specs.RoundOfTurns.{opened}
use Rattle.turns.specs.Ruling.{judged}

-- a round that begins changes nothing on which a standing line depends
module _ (events : List Event) (round : Round) where
  abbrev begun : List Event
  begun = events ++ event.Round round ∷ []

  same : SaysTheSame events begun
  same =
      quiet_same events (event.Round round) (record {
        payment = refl;
        ownership = refl;
        bidding = refl;
        transfer = refl;
        par = refl;
        square = refl;
        office = refl;
        float = refl;
        sv_price = refl;
        train = refl;
        tile = refl;
        token = refl;
      })

  judged_so : (set number : ℕ) (seat : Seat) (its : PlayOrder) → IsStandingIn (Operating set number) its
      → operating_standing_judgement begun seat (Play its) ≡ operating_standing_judgement events seat (Play its)
  judged_so set number seat (play.Discard company kind) fit =
      ap (λ (president : Option Seat). option_map refusal.Train (first_broken (record {
        code = train_rule.NoDiscard;
        broken = not (is_president president seat) || not (has_train begun company kind);
      } ∷ []))) (same.president company)
      ∙ ap (λ (held : ℤ). option_map refusal.Train (first_broken (record {
        code = train_rule.NoDiscard;
        broken = not (is_president (president_of events company) seat) || not (lt_z (pos 0) held);
      } ∷ []))) ((alike_at_end events (event.Round round) refl).held (Some company) kind)
  judged_so set number seat (play.Offer (offer.Train kind seller buyer price)) fit =
      ap (λ (president : Option Seat). first_broken (record {
        code = refusal.Train train_rule.NoConsent;
        broken = price == 0 || not (is_president president seat);
      } ∷ [])) (same.president seller)
  judged_so set number seat (play.Offer (offer.Private private buyer price)) fit =
      ap (λ (owner : Option Holder). first_broken (record {
        code = refusal.Private private_rule.NoConsent;
        broken = not (is_owner seat owner);
      } ∷ [])) (same.owner private)
  judged_so set number seat other fit = absurd fit

  limited_so : (number : ℕ) (its : PlayOrder) → IsStandingIn (Opening number) its
      → opening_standing_refusal begun (Play its) ≡ opening_standing_refusal events (Play its)
  limited_so number (play.Limit private amount) fit =
      ap (λ (sold : Bool). option_map refusal.Opening (first_broken (record { code = Sold; broken = sold } ∷ [])))
      (same.sold private)
  limited_so number other fit = absurd fit

-- so the line is ruled as its row tells
pub operating_ruled : StandingRowsAreRuled → (events : List Event) (seat : Seat) (set number : ℕ) (its : PlayOrder)
    → IsStandingIn (Operating set number) its
    → operating_standing_ruling (begun events (Operating set number)) seat (line_at 1 (Play its))
    ≡ judged None (Play its) (operating_standing_judgement events seat (Play its))
operating_ruled law events seat set number (play.Discard company kind) fit =
    let its : PlayOrder = play.Discard company kind in
    law (begun events (Operating set number)) seat (line_at 1 (Play its)) (Play its) refl (record { read = refl; met = refl })
    ∙ ap (judged None (Play its)) (sym (told_rule (pos 0) (operating_standing_judgement (begun events (Operating set number)) seat (Play its)))
    ∙ judged_so events (Operating set number) set number seat its fit)
operating_ruled law events seat set number (play.Offer sale) fit =
    let its : PlayOrder = play.Offer sale in
    law (begun events (Operating set number)) seat (line_at 1 (Play its)) (Play its) refl (record { read = refl; met = refl })
    ∙ ap (judged None (Play its)) (sym (told_rule (pos 0) (operating_standing_judgement (begun events (Operating set number)) seat (Play its)))
    ∙ judged_so events (Operating set number) set number seat its fit)
operating_ruled law events seat set number other fit = absurd fit

opening_ruled : RowsBeforeAreRuled → (events : List Event) (number : ℕ) (its : PlayOrder)
    → IsStandingIn (Opening number) its
    → opening_standing_ruling (begun events (Opening number)) (line_at 1 (Play its))
    ≡ judged None (Play its) (opening_standing_refusal events (Play its))
opening_ruled law events number (play.Limit private amount) fit =
    let its : PlayOrder = play.Limit private amount in
    law (begun events (Opening number)) (line_at 1 (Play its)) (Play its) refl (record { read = refl; met = refl })
    ∙ ap (judged None (Play its)) (sym (told_rule (pos amount) (opening_standing_refusal (begun events (Opening number)) (Play its)))
    ∙ limited_so events (Opening number) number its fit)
opening_ruled law events number other fit = absurd fit

-- it is a standing line
stands_in : (round : Round) (its : PlayOrder) → IsStandingIn round its → IsStanding its
stands_in (Opening number) (play.Limit private amount) fit = fit
stands_in (Opening number) other fit = absurd fit
stands_in (Stock set) its fit = absurd fit
stands_in (Operating set number) (play.Discard company kind) fit = fit
stands_in (Operating set number) (play.Offer sale) fit = fit
stands_in (Operating set number) other fit = absurd fit

module _ (laws : Laws) (file : List ℕ) (last : Between) (round : Round) (accepted : IsAccepted file) (end : IsEnded file)
    (plays : Plays file last) (comes : last.next ≡ next.Round round) (its : is_round_of_line round ≡ true) (seat : Seat)
    (own : seat.0 < length (players_of file)) (order : PlayOrder) (fit : IsStandingIn round order)
    (also : IsAccepted (standing_file file round seat order)) where
  abbrev new : List ℕ
  new = standing_file file round seat order

  abbrev lines : List (List ℕ)
  lines = standing_of_one order

  standing : IsStanding order
  standing = stands_in round order fit

  has : HasSheets file new round seat lines
  has =
      has_sheets laws.spelt laws.is_read file accepted end round its seat own lines
      (standing_lines_fit laws.spelt laws.is_read order standing) also

  own_parts : parts_for new round seat.0 ≡ record { before = line_at 1 (Play order) ∷ []; opened = [] }
  own_parts =
      ap (λ (sheet : Option (List (List ℕ))). parts_of_sheet (version_of new) round (unwrap_or sheet [])) has.own
      ∙ one_standing_line laws.is_read laws.again laws.plain (version_of new) round order standing

  none_before : (other : ℕ) → (other ≡ seat.0 → ⊥) → (parts_for new round other).before ≡ []
  none_before other apart =
      ap (λ (parts : SheetParts). parts.before) (alone file new round seat lines has other apart)

  at_table : seat.0 < last.game.seats
  at_table =
      subst (λ (seats : ℕ). seat.0 < seats)
      (sym (seats_kept laws.rounds.adds file plays.rounds (before_play file) last plays.reached)) own

  -- it is the one standing line of the round
  after_standing : (step : Seat → List Event → Numbered → List Event) (events : List Event)
      → after_all_before step new round events (range_with_len 0 last.game.seats) ≡ step seat events (line_at 1 (Play order))
  after_standing step events =
      one_standing step new round events seat.0 0 last.game.seats (omega arith) (omega (arith, at_table))
      (λ other apart within. none_before other apart)
      ∙ ap (λ (parts : SheetParts). after_each (step (seat_at seat.0)) events parts.before) own_parts

  -- what goes on from it is what the report says
  pub standing_reported : (ruling : Ruling) (game : Game) → IsPlayed new round last.game game
      → GoesOn ((last.game.events ++ event.Round round ∷ []) ++ event.Ruled seat 1 ruling ∷ []) game.events
      → (text : List ℕ) → IsReport new text
      → IsReportedNext new text last.game round (with_event last.game (event.Round round)) (event.Ruled seat 1 ruling ∷ [])
  standing_reported ruling game played stands text report =
      played_reported laws.rounds file new last round plays comes (is_posted file new round seat lines has) also game played
      text report
      (with_event last.game (event.Round round)) (event.Ruled seat 1 ruling ∷ []) stays stands

operating_row : Laws → StandingRowsAreRuled → (file : List ℕ) (last : Between) (set number : ℕ) → IsAccepted file
    → IsEnded file → Plays file last → last.next ≡ next.Round (Operating set number)
    → is_round_of_line (Operating set number) ≡ true → (seat : Seat) → seat.0 < length (players_of file)
    → (order : PlayOrder)
    → IsStandingReported file last.game (Operating set number) seat (standing_row last.game.events seat order)
operating_row laws law file last set number accepted end plays comes its seat own order fit also text report =
    let round : Round = Operating set number in
    let new : List ℕ = standing_file file round seat order in
    let there : List Event = last.game.events ++ event.Round round ∷ [] in
    let ended = laws.ends new round last.game in
    let played = ended.played in
    let refusal_told : Option Refusal = operating_standing_judgement last.game.events seat (Play order) in
    let ruled : Option Refusal → List Event =
    λ (rule : Option Refusal). there ++ event.Ruled seat 1 (judged None (Play order) rule) ∷ [] in
    let first : after_all_before after_operating_standing_line new round there (range_with_len 0 last.game.seats)
    ≡ ruled refusal_told =
    after_standing laws file last round accepted end plays comes its seat own order fit also after_operating_standing_line there
    ∙ ap (λ (ruling : Ruling). there ++ event.Ruled seat 1 ruling ∷ [])
    (operating_ruled law last.game.events seat set number order fit) in
    let paid : GoesOn (ruled refusal_told) (operating_round_opened new round last.game).events =
    subst (λ (events : List Event). GoesOn events (operating_round_opened new round last.game).events) first
    (by_revenues last.game.seats (after_all_before after_operating_standing_line new round there
    (range_with_len 0 last.game.seats)) privates) in
    let stands : GoesOn (ruled refusal_told) ended.new.events =
    subst (λ (game : Game). GoesOn (ruled refusal_told) game.events) (sym played.after)
    (paid ⨾ turns.by_turns laws.turn_adds new round played.turns.companies (operating_round_opened new round last.game) played.turned played.turns.turns
    ⨾ by_events played.turned.events (left_events new round played.turned.events (range_with_len 0 last.game.seats))) in
    let told : refusal_told ≡ rule_told (standing_answer last.game.events seat (Play order)) = told_rule (pos 0) refusal_told in
    standing_reported laws file last round accepted end plays comes its seat own order fit also
    (judged None (Play order) (rule_told (standing_answer last.game.events seat (Play order)))) ended.new played
    (subst (λ (rule : Option Refusal). GoesOn (ruled rule) ended.new.events) told stands) text report

opening_row : Laws → RowsBeforeAreRuled → TurnsSayWhoActed opening_rules → EachOpeningEnds → (file : List ℕ)
    (last : Between) (number : ℕ) → IsAccepted file → IsEnded file → Plays file last
    → last.next ≡ next.Round (Opening number) → is_round_of_line (Opening number) ≡ true → (seat : Seat)
    → seat.0 < length (players_of file) → (order : PlayOrder)
    → IsStandingReported file last.game (Opening number) seat (before_row last.game.events order)
opening_row laws law say opening_ends file last number accepted end plays comes its seat own order fit also text report =
    let round : Round = Opening number in
    let new : List ℕ = standing_file file round seat order in
    let seats : ℕ = last.game.seats in
    let there : List Event = last.game.events ++ event.Round round ∷ [] in
    let ended = opening_ends new round last.game in
    let played = ended.played in
    let refusal_told : Option Refusal = opening_standing_refusal last.game.events (Play order) in
    let ruled : Option Refusal → List Event =
    λ (rule : Option Refusal). there ++ event.Ruled seat 1 (judged None (Play order) rule) ∷ [] in
    let first : after_all_before after_opening_standing_line new round there (range_with_len 0 seats) ≡ ruled refusal_told =
    after_standing laws file last round accepted end plays comes its seat own order fit also after_opening_standing_line there
    ∙ ap (λ (ruling : Ruling). there ++ event.Ruled seat 1 ruling ∷ [])
    (opening_ruled law last.game.events number order fit) in
    let at : InPlay (List Event) Numbered = opened opening_rules seats new round last.game.events in
    let turned : GoesOn at.now played.last.now =
    subst (λ (last : InPlay (List Event) Numbered). GoesOn at.now last.now) played.turns.reached
    (by_turns opening_rules say by_opening_close seats played.turns.steps at) in
    let stands : GoesOn (ruled refusal_told) ended.new.events =
    subst (λ (game : Game). GoesOn (ruled refusal_told) game.events) (sym played.after)
    (subst (λ (events : List Event). GoesOn events played.last.now) first turned
    ⨾ by_opening_close seats played.last.now
    ⨾ by_left 0 played.last.written_turns (opening_rules.closed seats played.last.now)) in
    let told : refusal_told ≡ rule_told (before_answer last.game.events (Play order)) =
    told_rule (pos (before_cost (Play order))) refusal_told in
    standing_reported laws file last round accepted end plays comes its seat own order fit also
    (judged None (Play order) (rule_told (before_answer last.game.events (Play order)))) ended.new played
    (subst (λ (rule : Option Refusal). GoesOn (ruled rule) ended.new.events) told stands) text report

pub standing_rows_reported : Laws → RowsBeforeAreRuled → StandingRowsAreRuled → TurnsSayWhoActed opening_rules
    → EachOpeningEnds → StandingRowsAreReported
standing_rows_reported laws before_law law say opening_ends file last (Opening number) seat accepted end plays comes its own =
    each_mapped (IsStandingReported file last.game (Opening number) seat) (before_row last.game.events)
    (opening_row laws before_law say opening_ends file last number accepted end plays comes its seat own)
    (limits last.game.events seat)
standing_rows_reported laws before_law law say opening_ends file last (Stock set) seat accepted end plays comes its own = tt
standing_rows_reported laws before_law law say opening_ends file last (Operating set number) seat accepted end plays comes its
    own =
    each_mapped (IsStandingReported file last.game (Operating set number) seat) (standing_row last.game.events seat)
    (operating_row laws law file last set number accepted end plays comes its seat own)
    (standing_orders last.game.events seat)
