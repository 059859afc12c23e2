-- An event that says little says nothing of most things that the totals have.
use Rattle.std.proofs.Common.{◌≡◌, ℕ, ◌<◌, ◌^◌, ◌||◌, Bool, true, false, if◌then◌else◌, Option, None, is_some}
use Rattle.std.proofs.Common.{ℤ, pos, ◌+ℤ◌, ◌-ℤ◌, List, [], ◌∷◌, ◌++◌, length, refl, sym, ap, ◌∙◌, arith}
use Rattle.std.specs.List.{list_any}
use Rattle.std.specs.Option.{option_or}
use Rattle.std.proofs.lemmas.Bool.{false≢true}
use Rattle.std.proofs.lemmas.Int.{ints}
use Rattle.std.proofs.Math.Bool.{or-false}
use Rattle.events.specs.Event.{bidding_of, floated_by, office_of, operated_by, ownership_of, par_set, payment_of}
use Rattle.events.specs.Event.{phase_set, round_begun_by, says_bankrupt, says_broken, square_set, sv_price_set}
use Rattle.events.specs.Event.{token_placed, train_moved, transfer_of}
use Rattle.events.specs.declared.event.Event.{Event}
use Rattle.events.specs.declared.event.Event.TheVariants.{Left, Passes, Ruled}
use Rattle.totals.proofs.Applied.{balance_applied, bid_applied, flag_applied, greatest_applied}
use Rattle.totals.proofs.Applied.{place_applied, round_flag_applied, tokens_applied, word_applied}
use Rattle.totals.specs.Bids.{bid_of, greatest_bid_of}
use Rattle.totals.specs.LookBack.{in_round, last_place_from, last_said, now_said}
use Rattle.totals.specs.Operating.{tokens_placed}
use Rattle.totals.specs.Totals.{IsBalance, IsCounted, flag_then, here_if, says_little}
use Rattle.tables.specs.declared.roster.Company.{Company}
use Rattle.tables.specs.declared.roster.Private.{Private}
use Rattle.tables.specs.declared.round.Round.{Round as TheRound}
use Rattle.tables.specs.declared.seat.Seat.{Seat}

-- what such an event says nothing of
pub record SaysNothingElse (event : Event) : Type 0 where
  pub ownership : ownership_of event ≡ None
  pub bidding : bidding_of event ≡ None
  pub sv_price : sv_price_set event ≡ None
  pub round : round_begun_by event ≡ None
  pub phase : phase_set event ≡ None
  pub broken : says_broken event ≡ false
  pub bankrupt : says_bankrupt event ≡ false
  pub par : par_set event ≡ None
  pub square : square_set event ≡ None
  pub office : office_of event ≡ None
  pub float : floated_by event ≡ None
  pub payment : payment_of event ≡ None
  pub transfer : transfer_of event ≡ None
  pub train : train_moved event ≡ None
  pub token : token_placed event ≡ None
  pub operated : operated_by event ≡ None

-- each of them says nothing of these
pub nothing_else : (event : Event) → says_little event ≡ true → SaysNothingElse event
nothing_else (Ruled seat line ruling) little = record {
  ownership = refl;
  bidding = refl;
  sv_price = refl;
  round = refl;
  phase = refl;
  broken = refl;
  bankrupt = refl;
  par = refl;
  square = refl;
  office = refl;
  float = refl;
  payment = refl;
  transfer = refl;
  train = refl;
  token = refl;
  operated = refl;
}
nothing_else (Passes seat) little = record {
  ownership = refl;
  bidding = refl;
  sv_price = refl;
  round = refl;
  phase = refl;
  broken = refl;
  bankrupt = refl;
  par = refl;
  square = refl;
  office = refl;
  float = refl;
  payment = refl;
  transfer = refl;
  train = refl;
  token = refl;
  operated = refl;
}
nothing_else (Left seat lines) little = record {
  ownership = refl;
  bidding = refl;
  sv_price = refl;
  round = refl;
  phase = refl;
  broken = refl;
  bankrupt = refl;
  par = refl;
  square = refl;
  office = refl;
  float = refl;
  payment = refl;
  transfer = refl;
  train = refl;
  token = refl;
  operated = refl;
}
nothing_else other little = absurd (false≢true little)

-- the last word stays where the event says none
pub word_kept :
    {A : Type 0} (says : Event → Option A) (events : List Event) (event : Event) (old : Option A)
    → says event ≡ None → old ≡ last_said says events → old ≡ last_said says (events ++ event ∷ [])
word_kept {A} says events event old silent before =
    word_applied says events event old old (ap (λ (word : Option A). option_or word old) (sym silent)) before

-- and so does the place of the event that spoke last
pub place_kept :
    {A : Type 0} (says : Event → Option A) (events : List Event) (event : Event) (place : ℕ) (old : Option ℕ)
    → place ≡ length events → says event ≡ None → old ≡ last_place_from says 0 events
    → old ≡ last_place_from says 0 (events ++ event ∷ [])
place_kept {A} says events event place old at silent before =
    place_applied says events event place old old at
    (ap (λ (word : Option A). option_or (here_if word place) old) (sym silent)) before

-- a test that the event does not meet stays as it was
pub flag_kept :
    (says : Event → Bool) (events : List Event) (event : Event) (flag : Bool) → says event ≡ false
    → flag ≡ list_any says events → flag ≡ list_any says (events ++ event ∷ [])
flag_kept says events event flag silent before =
    flag_applied says events event flag flag (sym (or-false flag) ∙ ap (λ said. flag || said) (sym silent)) before

-- a bid stays
pub bid_kept :
    (events : List Event) (event : Event) (private : Private) (seat : Seat) (bid : Option ℕ)
    → bidding_of event ≡ None → bid ≡ bid_of events private seat → bid ≡ bid_of (events ++ event ∷ []) private seat
bid_kept events event private seat bid silent before =
    bid_applied events event private seat None bid bid (sym silent) refl before

-- and so does the greatest
pub greatest_kept :
    (events : List Event) (event : Event) (private : Private) (bid : Option ℕ)
    → bidding_of event ≡ None → bid ≡ greatest_bid_of events private
    → bid ≡ greatest_bid_of (events ++ event ∷ []) private
greatest_kept events event private bid silent before =
    greatest_applied events event private None bid bid (sym silent) refl before

-- a flag of the round stays where the event begins no round and says nothing
pub round_flag_kept :
    {A : Type 0} (says : Event → Option A) (events : List Event) (event : Event) (flag : Bool)
    → round_begun_by event ≡ None → says event ≡ None → flag ≡ is_some (now_said (in_round says) events)
    → flag ≡ is_some (now_said (in_round says) (events ++ event ∷ []))
round_flag_kept {A} says events event flag begun silent before =
    round_flag_applied says events event flag flag
    (sym (or-false flag)
    ∙ ap (λ (round : Option TheRound). if is_some round then false else (flag || false)) (sym begun)
    ∙ ap (λ (word : Option A). flag_then event (is_some word) flag) (sym silent)) before

-- a count of tokens stays
pub tokens_kept :
    (events : List Event) (event : Event) (company : Company) (count : ℕ) → length events < 2 ^ 63
    → token_placed event ≡ None → IsCounted (tokens_placed events company) events count
    → IsCounted (tokens_placed (events ++ event ∷ []) company) (events ++ event ∷ []) count
tokens_kept events event company count short silent before =
    let none : tokens_placed (event ∷ []) company ≡ 0 = rw silent refl in
    tokens_applied events event company count count short (λ few. omega (arith, none)) before

-- nothing comes and nothing goes
unmoved : (balance : ℤ) (in_ out : ℕ) → in_ ≡ 0 → out ≡ 0 → balance ≡ (balance +ℤ pos in_) -ℤ pos out
unmoved balance in_ out no_in no_out = omega (arith, ints, no_in, no_out)

-- an account to which an event brings nothing, and from which it takes nothing
pub balance_kept : (brings takes : Event → ℕ) (events : List Event) (event : Event) (balance : ℤ)
    → length events < 2 ^ 63 → brings event ≡ 0 → takes event ≡ 0 → IsBalance brings takes events balance
    → IsBalance brings takes (events ++ event ∷ []) balance
balance_kept brings takes events event balance short no_in no_out before =
    balance_applied brings takes events event balance balance short (omega (arith, no_in)) (omega (arith, no_out))
    (λ moderate. unmoved balance (brings event) (takes event) no_in no_out) before
