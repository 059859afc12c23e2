-- What a company withholds keeps a list sound, and leaves the seats as they are.
use Rattle.std.proofs.Common.{◌≡◌, ℕ, refl, ap, ◌∙◌, Bool, true, false, if◌then◌else◌}
use Rattle.certs.proofs.Dividends.{broken_sound}
use Rattle.events.specs.declared.event.Event.TheVariants as event
use Rattle.history.proofs.Payments.{withholding_sound}
use Rattle.history.specs.Record.{broken_recorded}
use Rattle.history.specs.Sound.{IsSound}
use Rattle.market.proofs.Tokens.{move_sound}
use Rattle.market.specs.Moves.{square_left_of}
use Rattle.market.specs.Token.{token_moved}
use Rattle.operating.specs.Pay.{withheld, withheld_if_unpaid}
use Rattle.operating.specs.Progress.{is_unpaid, pay_done}
use Rattle.operating.specs.TurnState.{TurnState, turn_state}
use Rattle.tables.specs.declared.roster.Company.{Company}
use Rattle.totals.specs.LookBack.{Game, with_event}

-- what a company withholds keeps a list sound
pub withheld_sound : (game new : Game) (company : Company) (amount : ℕ) → new ≡ withheld game company amount
    → IsSound game → IsSound new
withheld_sound game new company amount is sound =
    let recorded = broken_recorded (with_event game (event.Withheld company amount)) in
    move_sound square_left_of recorded new company is
    (broken_sound (with_event game (event.Withheld company amount)) (withholding_sound game company amount sound))

-- what a withholding brings, step by step
pub withheld_steps : (game paid recorded new : Game) (company : Company) (amount : ℕ)
    → paid ≡ with_event game (event.Withheld company amount) → recorded ≡ broken_recorded paid
    → new ≡ token_moved square_left_of recorded company → new ≡ withheld game company amount
withheld_steps game paid recorded new company amount is_paid is_recorded moved =
    moved ∙ ap (λ (game : Game). token_moved square_left_of game company) (is_recorded ∙ ap broken_recorded is_paid)

-- what the company withholds by itself leaves the seats as they are
pub withheld_seats : (company : Company) (turn : TurnState)
    → (withheld_if_unpaid company turn).game.seats ≡ turn.game.seats
withheld_seats company turn =
    elim (is_unpaid turn.progress) as (λ (b : Bool).
    (if b then turn_state (withheld turn.game company turn.progress.runs.revenue) (pay_done turn.progress)
    else turn).game.seats ≡ turn.game.seats) [
      | true ↦ refl
      | false ↦ refl
    ]
