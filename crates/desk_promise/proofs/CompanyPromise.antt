-- From the head of a company's orders that is told to the report of the file with a line at that head.
use Rattle.std.proofs.Common.{◌≡◌, ℕ, Bool, false, List, [], ◌∷◌, ◌++◌, Option}
use Rattle.std.proofs.Common.{ap, ◌∙◌, inl, inr, arith}
use Rattle.std.specs.Prelude.{if◌then◌else◌, unwrap_or}
use Rattle.std.proofs.lemmas.Bool.{cases_eq}
use Rattle.std.proofs.lemmas.Bool.Decides.{nat_tests}
use Rattle.desk_promise.proofs.CompanySheets.{company_lines_fit, one_company, parts_of_one}
use Rattle.desk_promise.proofs.GameBefore.{is_posted}
use Rattle.desk_promise.proofs.LineFiles.{has_sheets}
use Rattle.desk_promise.proofs.Longer.{◌⨾◌, GoesOn}
use Rattle.desk_promise.proofs.Names.{ReadWhereSpelt}
use Rattle.desk_promise.proofs.OrdersReached.{IsOneLine, play_reaches}
use Rattle.desk_promise.proofs.PlayedReport.{RoundLaws, played_reported}
use Rattle.desk_promise.proofs.SheetHead.{SpellingIsRead}
use Rattle.desk_promise.proofs.TurnPromise.{alone}
use Rattle.desk_promise.proofs.TurnSheets.{OneIsPlain, ReadAgain, line_at}
use Rattle.desk_promise.specs.CompanyLines.{IsHeadAwaited, order_file}
use Rattle.desk_promise.specs.LineFile.{HasSheets, IsOfCompanies, orders_of_one}
use Rattle.desk_promise.specs.Reported.{IsReportedNext}
use Rattle.events.specs.declared.event.Event.{Event}
use Rattle.foresight.specs.Ahead.{OrdersState}
use Rattle.operating.specs.CompanyOrders.{OrderLeads}
use Rattle.operating.specs.Laws.{OneCompanyTurn, TurnOnlyAdds}
use Rattle.operating.specs.Pay.{withheld_if_unpaid}
use Rattle.operating.specs.TurnEnd.{EndLeads}
use Rattle.operating.specs.TurnState.{TurnState}
use Rattle.order_grammar.specs.declared.order.Order.TheVariants.{Play}
use Rattle.order_grammar.specs.declared.play.PlayOrder.{PlayOrder}
use Rattle.report.specs.Report.{IsReport}
use Rattle.rounds.proofs.OneGame.{EachOperatingRoundEnds}
use Rattle.rounds.specs.Play.{Between}
use Rattle.sheets.specs.CompanyOrders.{company_orders_for, company_orders_in}
use Rattle.sheets.specs.File.{IsAccepted, version_of}
use Rattle.sheets.specs.Part.{SheetParts, parts_for, parts_of_sheet}
use Rattle.tables.proofs.Companies.{company_itself}
use Rattle.tables.specs.Roster.{same_company}
use Rattle.tables.specs.declared.roster.Company.{Company}
use Rattle.tables.specs.declared.round.Round.{Round}
use Rattle.tables.specs.declared.round.Round.TheVariants.{Operating}
use Rattle.totals.specs.LookBack.{Game}

-- companies differ either way
pub differ_too : (a b : Company) → same_company a b ≡ false → same_company b a ≡ false
differ_too a b apart = grind (arith, nat_tests, apart)

-- the laws on which the promise rests: how lines are read, how rounds are played, and how turns are
pub record Laws : Type 0 where
  pub spelt : ReadWhereSpelt
  pub is_read : SpellingIsRead
  pub again : ReadAgain
  pub plain : OneIsPlain
  pub rounds : RoundLaws
  pub once : OneCompanyTurn
  pub turn_adds : TurnOnlyAdds
  pub ends : EachOperatingRoundEnds

-- in a report of a file an order has led here, and the turn ends so: what the list has by then from the
-- head on comes next
pub record OrderStands (text file : List ℕ) (before : Game) (round : Round) (orders : OrdersState) (order : PlayOrder)
    : Type 0 where
  pub next : TurnState
  pub leads : OrderLeads orders.by orders.turn (line_at 2 (Play order)) (Play order) next
  pub reports : (head : Game) (said : List Event) → GoesOn orders.turn.game.events head.events
      → GoesOn (head.events ++ said) next.game.events → IsReportedNext file text before round head said
  pub ended : Game
  pub ends : EndLeads orders.by (line_at 2 (Play order) ∷ []) (withheld_if_unpaid orders.by.company next).game ended
  pub reports_end : (head : Game) (said : List Event) → GoesOn orders.turn.game.events head.events
      → GoesOn (head.events ++ said) ended.events → IsReportedNext file text before round head said

module _ (laws : Laws) (file : List ℕ) (last : Between) (set number : ℕ) (company : Company) (orders : OrdersState)
    (awaited : IsHeadAwaited file last (Operating set number) company orders) (order : PlayOrder) (fit : IsOfCompanies order)
    (also : IsAccepted (order_file file (Operating set number) orders.by order)) where
  abbrev round : Round
  round = Operating set number

  abbrev new : List ℕ
  new = order_file file round orders.by order

  abbrev its : Company
  its = orders.by.company

  abbrev lines : List (List ℕ)
  lines = orders_of_one its order

  has : HasSheets file new round orders.by.president lines
  has =
      has_sheets laws.spelt laws.is_read file awaited.accepted awaited.ended round awaited.of_line orders.by.president
      awaited.at_table lines (company_lines_fit laws.spelt laws.is_read its order fit) also

  -- the sheet has the company's orders, and no other sheet has any
  own_parts : parts_for new round orders.by.president.0 ≡ parts_of_one its order
  own_parts =
      ap (λ (sheet : Option (List (List ℕ))). parts_of_sheet (version_of new) round (unwrap_or sheet [])) has.own
      ∙ one_company laws.is_read laws.again laws.plain (version_of new) set number its order fit

  other_parts : (seat : ℕ) → (seat ≡ orders.by.president.0 → ⊥) → parts_for new round seat ≡ record { before = []; opened = [] }
  other_parts seat apart = alone file new round orders.by.president lines has seat apart

  no_before : (seat : ℕ) → (parts_for new round seat).before ≡ []
  no_before seat =
      elim (cases_eq seat orders.by.president.0) [
        | inl same ↦ ap (λ (n : ℕ). (parts_for new round n).before) same
            ∙ ap (λ (parts : SheetParts). parts.before) own_parts
        | inr apart ↦ ap (λ (parts : SheetParts). parts.before) (other_parts seat apart)
      ]

  no_others : (other : Company) → same_company other its ≡ false → (seat : ℕ)
      → company_orders_for new round seat other ≡ []
  no_others other apart seat =
      elim (cases_eq seat orders.by.president.0) [
        | inl same ↦ ap (λ (n : ℕ). company_orders_for new round n other) same
            ∙ ap (λ (parts : SheetParts). company_orders_in other parts.opened) own_parts
            ∙ ap (λ (b : Bool). if b then line_at 2 (Play order) ∷ [] else []) (differ_too other its apart)
        | inr other_seat ↦ ap (λ (parts : SheetParts). company_orders_in other parts.opened) (other_parts seat other_seat)
      ]

  one_line : IsOneLine new round orders.by (line_at 2 (Play order))
  one_line =
      record {
        before = no_before;
        own =
            ap (λ (parts : SheetParts). company_orders_in its parts.opened) own_parts
            ∙ ap (λ (b : Bool). if b then line_at 2 (Play order) ∷ [] else []) (company_itself its);
        others = no_others;
      }

  pub order_stands : (text : List ℕ) → IsReport new text → OrderStands text new last.game round orders order
  order_stands text report =
      let played = laws.ends new round last.game in
      let reaches = play_reaches laws.once laws.turn_adds file new round company orders last.game played.new 2 (Play order)
      awaited.ahead one_line played.played in
      let told : (head : Game) (said : List Event) → GoesOn orders.turn.game.events head.events
      → GoesOn (head.events ++ said) played.new.events → IsReportedNext new text last.game round head said =
      λ head said behind stands.
      played_reported laws.rounds file new last round awaited.plays awaited.comes
      (is_posted file new round orders.by.president lines has) also
      played.new played.played text report head said (reaches.heading ⨾ behind) stands in
      record {
        next = reaches.line.next;
        leads = reaches.line.leads;
        reports = λ head said behind goes_on. told head said behind (goes_on ⨾ reaches.line.stands);
        ended = reaches.line.ended;
        ends = reaches.line.ends;
        reports_end = λ head said behind goes_on. told head said behind (goes_on ⨾ reaches.line.later);
      }
