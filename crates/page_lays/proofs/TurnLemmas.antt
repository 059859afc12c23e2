-- The turns of companies, one after another.
use Rattle.std.proofs.Common.{◌≡◌, ℕ, suc, ◌+◌, Bool, true, List, [], ◌∷◌, ◌++◌, Option, Some, refl, ap, subst, arith, ◌∙◌}
use Rattle.std.proofs.lemmas.Bool.Decides.{nat_tests}
use Rattle.foresight.specs.Ahead.{AheadState}
use Rattle.market.specs.OperatingOrder.{next_company}
use Rattle.page_lays.specs.Turns.{HaveTurnsIn, IsTurnIn}
use Rattle.page_lays.specs.Players.{AreStandingIn, IsStandingAt}
use Rattle.page_lays.specs.declared.company_turns.Turn.{Turn}
use Rattle.page_lays.specs.declared.players.Player.{Player}
use Rattle.purchases.specs.Discard.{is_president}
use Rattle.tables.specs.Seat.{seat_at}
use Rattle.tables.specs.declared.roster.Company.{Company}
use Rattle.tables.specs.declared.round.Round.{Round}
use Rattle.tables.specs.declared.seat.Seat.{Seat}
use Rattle.totals.specs.LookBack.{Game}

-- one more company has its turn
pub one_more : (is_asked : Company → Bool) (count : ℕ) (opened mid now : AheadState) (before own : List Turn)
    (company : Company) → HaveTurnsIn is_asked count opened mid before → next_company mid.game.events ≡ Some company
    → IsTurnIn is_asked company mid now own → HaveTurnsIn is_asked (count + 1) opened now (before ++ own)
one_more is_asked count opened mid now before own company have is_next turn =
    let same : suc count ≡ count + 1 = omega arith in
    subst (λ (n : ℕ). HaveTurnsIn is_asked n opened now (before ++ own)) same
    (mid, before, own, company, have, is_next, turn, refl)

-- the president presides
pub presides : (president : Option Seat) (seat : Seat) → president ≡ Some seat → is_president president seat ≡ true
presides president seat is =
    let its : is_president (Some seat) seat ≡ true = grind (arith, nat_tests) in
    ap (λ (one : Option Seat). is_president one seat) is ∙ its

-- one more player, with the standing lines
pub one_more_standing : (round : Round) (game : Game) (count : ℕ) (before all : List Player) (last : Player)
    → AreStandingIn round game count before → IsStandingAt round game (seat_at count) last → all ≡ before ++ last ∷ []
    → AreStandingIn round game (count + 1) all
one_more_standing round game count before all last so_far its is =
    let same : suc count ≡ count + 1 = omega arith in
    subst (λ (n : ℕ). AreStandingIn round game n all) same (before, last, so_far, its, is)
