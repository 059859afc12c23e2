-- What a seat or a company can pay for keeps a list sound.
use Rattle.std.proofs.Common.{ℕ, ◌==◌, inl, inr, if◌then◌else◌, pos, ◌≤ℤ◌, refl}
use Rattle.std.proofs.lemmas.Bool.{cases_Bool}
use Rattle.events.specs.Event.{party_of_company}
use Rattle.events.specs.declared.event.Event.TheVariants.{Home, Laid, Token, Withheld}
use Rattle.history.proofs.BidWords.{same_seat_is}
use Rattle.history.proofs.Soundness.{paying, sound_after}
use Rattle.history.specs.Laws.{HomeKeepsSound, LayKeepsSound, TokenKeepsSound, WithholdingKeepsSound}
use Rattle.totals.specs.Bids.{free_cash_of}
use Rattle.totals.specs.LookBack.{Game, cash_of}
use Rattle.history.specs.Sound.{CompaniesAreSolvent, SeatsAreSolvent}
use Rattle.tables.specs.Roster.{same_company}
use Rattle.tables.specs.declared.roster.Company.{Company}
use Rattle.tables.specs.declared.seat.Seat.{Seat}
use Rattle.tables.proofs.Companies.{company_is}

-- each company has what it pays, where the one that pays has
pub can_pay : (game : Game) (company other : Company) (cost : ℕ)
    → pos cost ≤ℤ cash_of game.seats game.events (party_of_company company) → CompaniesAreSolvent game
    → pos (if same_company company other then cost else 0) ≤ℤ cash_of game.seats game.events (party_of_company other)
can_pay game company other cost enough solvent =
    elim (cases_Bool (same_company company other)) [
      | inl same ↦ rw same (rw (← (company_is company other same)) enough)
      | inr apart ↦ rw apart (solvent other)
    ]

-- each seat has what it pays free, where the one that pays has
pub can_afford : (game : Game) (seat by : Seat) (cost : ℕ) → pos cost ≤ℤ free_cash_of game.seats game.events seat
    → SeatsAreSolvent game → pos (if seat.0 == by.0 then cost else 0) ≤ℤ free_cash_of game.seats game.events by
can_afford game seat by cost enough solvent =
    elim (cases_Bool (seat.0 == by.0)) [
      | inl same ↦ rw same (rw (← (same_seat_is seat by same)) enough)
      | inr apart ↦ rw apart (solvent by)
    ]

-- a lay
pub lay_sound : LayKeepsSound
lay_sound game company lay cost enough fit sound =
    sound_after game (Laid company lay cost) (paying game _ refl sound.solvent
    (λ other. can_pay game company other cost enough sound.companies) (tt, tt) (fit, tt)) tt sound

-- a token
pub token_sound : TokenKeepsSound
token_sound game company place cost enough fit sound =
    sound_after game (Token company place cost) (paying game _ refl sound.solvent
    (λ other. can_pay game company other cost enough sound.companies) (tt, tt) (fit, tt)) tt sound

-- a company that withholds
pub withholding_sound : WithholdingKeepsSound
withholding_sound game company amount sound =
    sound_after game (Withheld company amount) (paying game _ refl sound.solvent sound.companies (tt, tt) tt) tt sound

-- a home token
pub home_sound : HomeKeepsSound
home_sound game company place fit = sound_after game (Home company place) (fit, tt) tt
