-- The lines of an operating round, one after another.
use Rattle.std.proofs.Common.{◌≡◌, ℕ, suc, ◌+◌, Bool, true, false, IsTrue, ◌↔◌, inl, inr, List, [], ◌++◌, Option, Some}
use Rattle.std.proofs.Common.{if◌then◌else◌, refl, ap, subst, ◌∙◌, append_assoc, arith}
use Rattle.desk_may.specs.OperatingLines.{AreRaiseLines, HaveTurnsWritten, IsTurnWritten, company_head, private_rows_of}
use Rattle.desk_may.specs.OperatingLines.{raise_lines, train_lines}
use Rattle.desk_may.specs.RowLines.{row_lines}
use Rattle.foresight.specs.Ahead.{AheadState, OrdersState, withheld_in}
use Rattle.market.specs.OperatingOrder.{next_company}
use Rattle.moves.specs.declared.row.Row.{Row}
use Rattle.operating.specs.TurnEnd.{IsDue}
use Rattle.tables.specs.declared.roster.Company.{Company}
use Rattle.tables.specs.declared.seat.Seat.{Seat}

-- the RAISE lines are there by a test of whether a train must be bought
pub raise_lines_by_test : (due : Bool) (orders : OrdersState) → IsTrue due ↔ IsDue orders.turn.game orders.by.company
    → AreRaiseLines orders (if due then raise_lines orders else [])
raise_lines_by_test true orders is = inl (is.0 refl, refl)
raise_lines_by_test false orders is = inr ((λ due. let wrong : false ≡ true = is.1 due in cc), refl)

-- four texts behind another, one after the other
in_one : (a b c d e : List ℕ) → (((a ++ b) ++ c) ++ d) ++ e ≡ a ++ (((b ++ c) ++ d) ++ e)
in_one a b c d e =
    ap (λ (text : List ℕ). (text ++ d) ++ e) (append_assoc a b c)
    ∙ ap (λ (text : List ℕ). text ++ e) (append_assoc a (b ++ c) d)
    ∙ append_assoc a ((b ++ c) ++ d) e

-- the lines of a company, as they are added
pub lines_added : (presidents : List (Option Seat)) (orders mid last : OrdersState) (company : Company) (file : List ℕ)
    (privates : List Row) (due : Bool) (old headed trained owned new : List ℕ) → company ≡ orders.by.company
    → mid ≡ withheld_in orders → last ≡ mid → file ≡ orders.file
    → privates ≡ private_rows_of orders.turn.game orders.by.company → headed ≡ old ++ company_head company
    → trained ≡ headed ++ train_lines presidents mid → owned ≡ trained ++ row_lines file privates
    → new ≡ owned ++ (if due then raise_lines last else [])
    → new ≡ old ++ (company_head orders.by.company ++ train_lines presidents (withheld_in orders)
    ++ row_lines orders.file (private_rows_of orders.turn.game orders.by.company)
    ++ (if due then raise_lines (withheld_in orders) else []))
lines_added presidents orders mid last company file privates due old headed trained owned new company_is mid_is last_is
    file_is privates_are headed_is trained_is owned_is new_is =
    rw (new_is, owned_is, trained_is, headed_is, last_is, mid_is, file_is, privates_are, company_is)
    (in_one old (company_head orders.by.company) (train_lines presidents (withheld_in orders))
    (row_lines orders.file (private_rows_of orders.turn.game orders.by.company))
    (if due then raise_lines (withheld_in orders) else []))

-- one more company has its turn, with its lines
pub one_more_written : (presidents : List (Option Seat)) (seat : Seat) (count : ℕ) (opened mid now : AheadState)
    (before own : List ℕ) (company : Company) → HaveTurnsWritten presidents seat count opened mid before
    → next_company mid.game.events ≡ Some company → IsTurnWritten presidents seat company mid now own
    → HaveTurnsWritten presidents seat (count + 1) opened now (before ++ own)
one_more_written presidents seat count opened mid now before own company have is_next turn =
    let same : suc count ≡ count + 1 = omega arith in
    subst (λ (n : ℕ). HaveTurnsWritten presidents seat n opened now (before ++ own)) same
    (mid, before, own, company, have, is_next, turn, refl)
