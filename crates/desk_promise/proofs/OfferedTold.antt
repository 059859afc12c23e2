-- The rows of a company that name a consent are as the reports say, once it is offered.
use Rattle.std.proofs.Common.{◌≡◌, ℕ, ◌<◌, Bool, true, false, List, [], ◌∷◌, ◌++◌, length, Option, Some, None}
use Rattle.std.proofs.Common.{refl, sym, ap, subst, ◌∙◌, inl, inr, arith}
use Rattle.std.specs.Prelude.{if◌then◌else◌, is_some, unwrap_or}
use Rattle.std.proofs.lemmas.Bool.{cases_eq, cases_lt}
use Rattle.desk_promise.proofs.CompanyPromise.{Laws, differ_too}
use Rattle.desk_promise.proofs.CompanySheets.{company_lines_fit, one_company, parts_of_one}
use Rattle.desk_promise.proofs.GameBefore.{IsPosted, seats_kept}
use Rattle.desk_promise.proofs.LaysTold.{from_start}
use Rattle.desk_promise.proofs.LineFiles.{has_sheets}
use Rattle.desk_promise.proofs.Longer.{◌⨾◌, GoesOn, by_events, stays}
use Rattle.desk_promise.proofs.Moved.{Moved}
use Rattle.desk_promise.proofs.OfferFiles.{has_both_sheets}
use Rattle.desk_promise.proofs.OfferedReached.{ComesTo, IsToldSo, head_too, play_comes}
use Rattle.desk_promise.proofs.OrdersMoved.{by_private_line, by_train_line, row_in_report}
use Rattle.desk_promise.proofs.PlayedReport.{played_reported}
use Rattle.desk_promise.proofs.RowsTold.{by_withholding}
use Rattle.desk_promise.proofs.StandingSheets.{one_standing_line, standing_lines_fit}
use Rattle.desk_promise.proofs.TurnPromise.{alone}
use Rattle.desk_promise.proofs.TurnSheets.{line_at}
use Rattle.desk_promise.specs.CompanyLines.{IsHeadAwaited, ruled_second}
use Rattle.desk_promise.specs.LineFile.{HasSheets, IsOfCompanies, orders_of_one}
use Rattle.desk_promise.specs.Moves.{MovesInOrders}
use Rattle.desk_promise.specs.OfferFile.{HasBothSheets, offer_of_one, offered_file}
use Rattle.desk_promise.specs.OfferedRows.{IsHeadOffered, OfferedPrivatesAreReported, OfferedTrainsAreReported}
use Rattle.desk_promise.specs.Reported.{IsReportedNext}
use Rattle.desk_promise.specs.StandingRows.{standing_file}
use Rattle.events.specs.declared.event.Event.{Event}
use Rattle.events.specs.declared.event.Event.TheVariants as event
use Rattle.forced_purchase.specs.declared.operator.Operator.{Operator}
use Rattle.foresight.proofs.ReachedLemmas.{one_standing}
use Rattle.foresight.specs.Ahead.{OrdersState, withheld_in}
use Rattle.foresight.specs.Draft.{after_standing_of, is_drafters, opened_ahead}
use Rattle.history.specs.Record.{revenues_recorded}
use Rattle.moves.specs.CompanyRows.{private_answer, train_answer}
use Rattle.moves.specs.ConsentLaws.{OfferedPrivatesAreTold, OfferedTrainsAreTold}
use Rattle.moves.specs.RowLaws.{PrivateRowsAreRuled, TrainRowsAreRuled, rule_told}
use Rattle.moves.specs.declared.row.Answer.{Answer}
use Rattle.moves.specs.declared.row.Answer.TheVariants.{Obeyed, WithConsent}
use Rattle.operating.proofs.NoSheet.{no_orders}
use Rattle.operating.specs.CompanyOrders.{OrderLeads}
use Rattle.operating.specs.Pay.{withheld_if_unpaid}
use Rattle.operating.specs.Progress.{at_start}
use Rattle.operating.specs.TurnState.{TurnState, turn_state}
use Rattle.order_grammar.specs.declared.order.Offer.{Offer}
use Rattle.order_grammar.specs.declared.order.Order.TheVariants.{Play}
use Rattle.order_grammar.specs.declared.play.PlayOrder.{PlayOrder}
use Rattle.order_grammar.specs.declared.play.PlayOrder.TheVariants as play
use Rattle.purchases.specs.Discard.{is_president}
use Rattle.purchases.specs.Standing.{after_operating_standing_line}
use Rattle.report.specs.Report.{IsReport}
use Rattle.rounds.specs.OperatingRound.{operating_round_opened}
use Rattle.rounds.specs.Play.{Between, before_play}
use Rattle.sheets.specs.CompanyOrders.{company_orders_for, company_orders_in}
use Rattle.sheets.specs.File.{IsAccepted, players_of, sheet_of, version_of}
use Rattle.sheets.specs.Part.{SheetParts, parts_for, parts_of_sheet}
use Rattle.sheets.specs.Taken.{after_each}
use Rattle.tables.proofs.Companies.{company_itself}
use Rattle.tables.specs.Roster.{same_company}
use Rattle.tables.specs.Seat.{seat_at}
use Rattle.tables.specs.declared.roster.Company.{Company}
use Rattle.tables.specs.declared.round.Round.{Round}
use Rattle.tables.specs.declared.round.Round.TheVariants.{Operating}
use Rattle.tables.specs.declared.seat.Seat.{Seat}
use Rattle.totals.specs.LookBack.{Game}
use Rattle.turns.specs.Ruling.{judged}

-- no sheet is lacking in the file with both
both_posted : (file new : List ℕ) (round : Round) (giver : Seat) (given : List (List ℕ)) (seat : Seat)
    (lines : List (List ℕ)) → HasBothSheets file new round giver given seat lines → IsPosted file new round
both_posted file new round giver given seat lines has =
    record {
      players = has.players;
      version = has.version;
      each = λ k below. elim (cases_eq k seat.0) [
        | inl same ↦ ap (λ (n : ℕ). is_some (sheet_of new n round)) same
            ∙ ap (λ (sheet : Option (List (List ℕ))). is_some sheet) has.own
        | inr apart ↦ elim (cases_eq k giver.0) [
          | inl givers ↦ ap (λ (n : ℕ). is_some (sheet_of new n round)) givers
              ∙ ap (λ (sheet : Option (List (List ℕ))). is_some sheet) has.givers
          | inr other ↦ ap (λ (sheet : Option (List (List ℕ))). is_some sheet) (has.others k below apart other)
        ]
      ];
      elsewhere = has.elsewhere;
    }

-- the parts of a sheet of one standing line, and of none
abbrev standing_part : PlayOrder → SheetParts
standing_part its = record { before = line_at 1 (Play its) ∷ []; opened = [] }

abbrev no_part : SheetParts
no_part = record { before = []; opened = [] }

module _ (laws : Laws) (file : List ℕ) (last : Between) (set number : ℕ) (company : Company) (orders : OrdersState)
    (awaited : IsHeadAwaited file last (Operating set number) company orders) (giver : Seat) (sale : Offer)
    (offered : OrdersState) (head : IsHeadOffered file last (Operating set number) company giver sale offered)
    (leads_it : offered.by ≡ orders.by) (order : PlayOrder) (fit : IsOfCompanies order)
    (also : IsAccepted (offered_file file (Operating set number) giver sale offered.by.president offered.by.company order)) where
  abbrev round : Round
  round = Operating set number

  abbrev by : Operator
  by = offered.by

  abbrev new : List ℕ
  new = offered_file file round giver sale offered.by.president offered.by.company order

  abbrev told : List ℕ
  told = standing_file file round giver (play.Offer sale)

  at_table : offered.by.president.0 < length (players_of file)
  at_table = subst (λ (o : Operator). o.president.0 < length (players_of file)) (sym leads_it) awaited.at_table

  told_has : HasSheets file told round giver (offer_of_one sale)
  told_has =
      has_sheets laws.spelt laws.is_read file awaited.accepted awaited.ended round awaited.of_line giver head.giving
      (offer_of_one sale) (standing_lines_fit laws.spelt laws.is_read (play.Offer sale) head.small) head.accepted

  has : HasBothSheets file new round giver (offer_of_one sale) offered.by.president (orders_of_one offered.by.company order)
  has =
      has_both_sheets laws.spelt laws.is_read file awaited.accepted awaited.ended round awaited.of_line giver head.giving
      (offer_of_one sale) (standing_lines_fit laws.spelt laws.is_read (play.Offer sale) head.small) offered.by.president
      at_table (orders_of_one offered.by.company order)
      (company_lines_fit laws.spelt laws.is_read offered.by.company order fit) head.apart also

  -- the parts of the sheets of the file that is told
  told_givers : parts_for told round giver.0 ≡ standing_part (play.Offer sale)
  told_givers =
      ap (λ (sheet : Option (List (List ℕ))). parts_of_sheet (version_of told) round (unwrap_or sheet [])) told_has.own
      ∙ one_standing_line laws.is_read laws.again laws.plain (version_of told) round (play.Offer sale) head.small

  told_others : (seat : ℕ) → (seat ≡ giver.0 → ⊥) → parts_for told round seat ≡ no_part
  told_others seat apart = alone file told round giver (offer_of_one sale) told_has seat apart

  none_told : (seat : ℕ) (any : Company) → company_orders_for told round seat any ≡ []
  none_told seat any =
      elim (cases_eq seat giver.0) [
        | inl same ↦ ap (λ (n : ℕ). company_orders_for told round n any) same
            ∙ ap (λ (parts : SheetParts). company_orders_in any parts.opened) told_givers
        | inr apart ↦ ap (λ (parts : SheetParts). company_orders_in any parts.opened) (told_others seat apart)
      ]

  -- and of the file that is played
  givers : parts_for new round giver.0 ≡ standing_part (play.Offer sale)
  givers =
      ap (λ (sheet : Option (List (List ℕ))). parts_of_sheet (version_of new) round (unwrap_or sheet [])) has.givers
      ∙ one_standing_line laws.is_read laws.again laws.plain (version_of new) round (play.Offer sale) head.small

  own_parts : parts_for new round offered.by.president.0 ≡ parts_of_one offered.by.company order
  own_parts =
      ap (λ (sheet : Option (List (List ℕ))). parts_of_sheet (version_of new) round (unwrap_or sheet [])) has.own
      ∙ one_company laws.is_read laws.again laws.plain (version_of new) set number offered.by.company order fit

  of_sheet : (seat : ℕ) (sheet : Option (List (List ℕ))) → sheet_of new seat round ≡ sheet → unwrap_or sheet [] ≡ []
      → parts_for new round seat ≡ no_part
  of_sheet seat sheet is none =
      ap (λ (its : Option (List (List ℕ))). parts_of_sheet (version_of new) round (unwrap_or its [])) is
      ∙ ap (parts_of_sheet (version_of new) round) none

  other_parts : (seat : ℕ) → (seat ≡ offered.by.president.0 → ⊥) → (seat ≡ giver.0 → ⊥) → parts_for new round seat ≡ no_part
  other_parts seat apart too =
      elim (cases_lt seat (length (players_of file))) [
        | inl within ↦ of_sheet seat (Some []) (has.others seat within apart too) refl
        | inr past ↦ of_sheet seat None (has.no_more seat round past) refl
      ]

  -- no seat but the giver has a standing line
  none_before : (seat : ℕ) → (seat ≡ giver.0 → ⊥) → (parts_for new round seat).before ≡ []
  none_before seat apart =
      elim (cases_eq seat offered.by.president.0) [
        | inl same ↦ ap (λ (n : ℕ). (parts_for new round n).before) same
            ∙ ap (λ (parts : SheetParts). parts.before) own_parts
        | inr other ↦ ap (λ (parts : SheetParts). parts.before) (other_parts seat other apart)
      ]

  -- no other company has orders
  none_other : (other : Company) → same_company other offered.by.company ≡ false → (seat : ℕ)
      → company_orders_for new round seat other ≡ []
  none_other other differs seat =
      elim (cases_eq seat offered.by.president.0) [
        | inl same ↦ ap (λ (n : ℕ). company_orders_for new round n other) same
            ∙ ap (λ (parts : SheetParts). company_orders_in other parts.opened) own_parts
            ∙ ap (λ (b : Bool). if b then line_at 2 (Play order) ∷ [] else []) (differ_too other offered.by.company differs)
        | inr apart ↦ elim (cases_eq seat giver.0) [
          | inl its ↦ ap (λ (n : ℕ). company_orders_for new round n other) its
              ∙ ap (λ (parts : SheetParts). company_orders_in other parts.opened) givers
          | inr none ↦ ap (λ (parts : SheetParts). company_orders_in other parts.opened) (other_parts seat apart none)
        ]
      ]

  -- the round begins, and its one standing line is ruled
  abbrev there : List Event
  there = last.game.events ++ event.Round round ∷ []

  standing_in : (some : List ℕ) → parts_for some round giver.0 ≡ standing_part (play.Offer sale)
      → after_standing_of some (Some giver) round there
      ≡ after_operating_standing_line giver there (line_at 1 (Play (play.Offer sale)))
  standing_in some parts =
      ap (λ (its : SheetParts). after_each (after_operating_standing_line (seat_at giver.0)) there its.before) parts

  same_seats : last.game.seats ≡ length (players_of file)
  same_seats = seats_kept laws.rounds.adds file awaited.plays.rounds (before_play file) last awaited.plays.reached

  opened : opened_ahead told (Some giver) round last.game ≡ operating_round_opened new round last.game
  opened =
      let seated : giver.0 < last.game.seats = subst (λ (seats : ℕ). giver.0 < seats) (sym same_seats) head.giving in
      ap (λ (events : List Event). revenues_recorded (record { seats = last.game.seats; events = events }))
      (standing_in told told_givers ∙ sym (standing_in new givers)
      ∙ sym (one_standing after_operating_standing_line new round there giver.0 0 last.game.seats (omega arith)
      (omega (arith, seated)) (λ k other within. none_before k other)))

  told_so : IsToldSo told (Some giver) new round last.game offered.by (line_at 2 (Play order))
  told_so =
      record {
        opened = opened;
        nothing_told = elim (is_drafters (Some giver) offered.by.president) as (λ (b : Bool).
            (if b then company_orders_for told round offered.by.president.0 offered.by.company else []) ≡ []) [
              | true ↦ none_told offered.by.president.0 offered.by.company
              | false ↦ refl
            ];
        own =
            ap (λ (parts : SheetParts). company_orders_in offered.by.company parts.opened) own_parts
            ∙ ap (λ (b : Bool). if b then line_at 2 (Play order) ∷ [] else []) (company_itself offered.by.company);
        others_told = λ other differs president seat. elim (is_president president giver) as (λ (b : Bool).
            company_orders_for (if b then told else []) round seat other ≡ []) [
              | true ↦ none_told seat other
              | false ↦ no_orders round seat other
            ];
        others = none_other;
      }

  standing : GoesOn there (after_standing_of told (Some giver) round there)
  standing = subst (λ (events : List Event). GoesOn there events) (sym (standing_in told told_givers)) (by_events there _)

  comes : ComesTo offered (line_at 2 (Play order)) (Play order) round last.game (laws.ends new round last.game).new
  comes =
      play_comes laws.once laws.turn_adds told (Some giver) new round company offered last.game
      (laws.ends new round last.game).new 2 (Play order) head.ahead told_so standing (laws.ends new round last.game).played

  start : offered.turn ≡ turn_state offered.turn.game at_start
  start =
      let is = head_too told (Some giver) new round company offered last.game (line_at 2 (Play order)) head.ahead
      (subst (λ (o : Operator). IsToldSo told (Some giver) new round last.game o (line_at 2 (Play order)))
      head.ahead.led.2.its told_so) in
      is ∙ ap (λ (turn : TurnState). turn_state turn.game at_start) (sym is)

  -- the order leads from the head, and what follows it is in the report
  leads_from_start : OrderLeads offered.by (turn_state offered.turn.game at_start) (line_at 2 (Play order)) (Play order)
      comes.line_stands.next
  leads_from_start = from_start offered order comes.line_stands.next start comes.line_stands.leads

  reports : (text : List ℕ) → IsReport new text → (at : Game) (said : List Event)
      → GoesOn offered.turn.game.events at.events → GoesOn (at.events ++ said) comes.line_stands.next.game.events
      → IsReportedNext new text last.game round at said
  reports text report at said behind goes_on =
      played_reported laws.rounds file new last round awaited.plays awaited.comes
      (both_posted file new round giver (offer_of_one sale) offered.by.president
      (orders_of_one offered.by.company order) has) also (laws.ends new round last.game).new
      (laws.ends new round last.game).played text report at said (comes.heading ⨾ behind)
      (goes_on ⨾ comes.line_stands.stands)

pub offered_trains_reported : Laws → TrainRowsAreRuled → OfferedTrainsAreTold → OfferedTrainsAreReported
offered_trains_reported laws law offers file last set number company orders offered giver sale awaited head same its price told
    fit also text report =
    let round : Round = Operating set number in
    let by : Operator = offered.by in
    let order : PlayOrder = play.BuyTrain its.kind its.from in
    let new : List ℕ = offered_file file round giver sale by.president by.company order in
    let stands = comes laws file last set number company orders awaited giver sale offered head same.by order fit also in
    let next : TurnState = stands.line_stands.next in
    let at_head : TurnState = turn_state offered.turn.game at_start in
    let paid : TurnState → TurnState = λ (turn : TurnState). withheld_if_unpaid by.company turn in
    let now : Game = (withheld_in offered).turn.game in
    let answer : TurnState → Answer =
    λ (turn : TurnState). train_answer (paid turn).game by.company its.kind its.from in
    let ruled_at : TurnState → List Event = λ (turn : TurnState). (paid turn).game.events
    ++ ruled_second by (judged None (Play order) (rule_told (answer turn))) ∷ [] in
    let led = law by offered.turn.game (line_at 2 (Play order)) its.kind its.from next
    (leads_from_start laws file last set number company orders awaited giver sale offered head same.by order fit also) in
    let moved : Moved (answer at_head) (MovesInOrders (paid at_head).game by order) (ruled_at at_head) next.game.events =
    subst (λ (turn : TurnState). Moved (answer at_head) (MovesInOrders (paid at_head).game by order) (ruled_at at_head)
    turn.game.events) (sym led) (by_train_line by (paid at_head) (line_at 2 (Play order)) its.kind its.from) in
    let moved_now : Moved (answer offered.turn) (MovesInOrders now by order) (ruled_at offered.turn) next.game.events =
    subst (λ (turn : TurnState). Moved (answer turn) (MovesInOrders (paid turn).game by order) (ruled_at turn)
    next.game.events)
    (sym (start laws file last set number company orders awaited giver sale offered head same.by order fit also)) moved in
    let asked : train_answer (withheld_in orders).turn.game by.company its.kind its.from ≡ WithConsent price giver sale =
    ap (λ (o : Operator). train_answer (withheld_in orders).turn.game o.company its.kind its.from) same.by ∙ told in
    let obeyed : answer offered.turn ≡ Obeyed price =
    offers (withheld_in orders).turn.game now by.company its.kind its.from price giver sale asked same.withheld in
    row_in_report new text last.game round by now (record { order = order; answer = Obeyed price }) next.game.events
    (λ said goes_on. reports laws file last set number company orders awaited giver sale offered head same.by order fit also
    text report now said (by_withholding by.company offered.turn) goes_on)
    (subst (λ (its_answer : Answer). Moved its_answer (MovesInOrders now by order)
    (now.events ++ ruled_second by (judged None (Play order) (rule_told its_answer)) ∷ []) next.game.events) obeyed moved_now)

pub offered_privates_reported : Laws → PrivateRowsAreRuled → OfferedPrivatesAreTold → OfferedPrivatesAreReported
offered_privates_reported laws law offers file last set number company orders offered giver sale awaited head same its price
    told fit also text report =
    let round : Round = Operating set number in
    let by : Operator = offered.by in
    let order : PlayOrder = play.BuyOwnedPrivate its.private its.price in
    let new : List ℕ = offered_file file round giver sale by.president by.company order in
    let stands = comes laws file last set number company orders awaited giver sale offered head same.by order fit also in
    let next : TurnState = stands.line_stands.next in
    let now : Game = offered.turn.game in
    let answer : Answer = private_answer now by.company its.private its.price in
    let led = law by now (line_at 2 (Play order)) its.private its.price next
    (leads_from_start laws file last set number company orders awaited giver sale offered head same.by order fit also) in
    let moved : Moved answer (MovesInOrders now by order)
    (now.events ++ ruled_second by (judged None (Play order) (rule_told answer)) ∷ []) next.game.events =
    subst (λ (turn : TurnState). Moved answer (MovesInOrders now by order)
    (now.events ++ ruled_second by (judged None (Play order) (rule_told answer)) ∷ []) turn.game.events) (sym led)
    (by_private_line by (turn_state now at_start) (line_at 2 (Play order)) its.private its.price) in
    let asked : private_answer orders.turn.game by.company its.private its.price ≡ WithConsent price giver sale =
    ap (λ (o : Operator). private_answer orders.turn.game o.company its.private its.price) same.by ∙ told in
    let obeyed : answer ≡ Obeyed price =
    offers orders.turn.game now by.company its.private its.price price giver sale asked same.game in
    row_in_report new text last.game round by now (record { order = order; answer = Obeyed price }) next.game.events
    (λ said goes_on. reports laws file last set number company orders awaited giver sale offered head same.by order fit also
    text report now said stays goes_on)
    (subst (λ (its_answer : Answer). Moved its_answer (MovesInOrders now by order)
    (now.events ++ ruled_second by (judged None (Play order) (rule_told its_answer)) ∷ []) next.game.events) obeyed moved)
