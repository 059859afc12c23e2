-- What keeps an opening round under way: sales with what comes with them, and the fall of SV.
use Rattle.std.proofs.Common.{◌≡◌, ◌≢◌, ℕ, ◌-◌, ◌<◌, true, false, List, []}
use Rattle.std.proofs.Common.{◌∷◌, ◌++◌, Option, Some, None, is_some, append_assoc, inl, inr, refl, sym, subst, ap, ◌∙◌}
use Rattle.std.proofs.Common.{arith}
use Rattle.events.specs.Event.{is_par_value, ownership_of, placement_on, square_set}
use Rattle.events.specs.declared.event.Event.{Event}
use Rattle.events.specs.declared.event.Event.TheVariants as event
use Rattle.history.proofs.Acts.{gift_sound, price_sound, sale_sound}
use Rattle.totals.proofs.EventAtEnd.{last_said_at_end, last_said_before, square_of_before}
use Rattle.history.proofs.Gifts.{ca_sound}
use Rattle.history.proofs.Starts.{started_sound}
use Rattle.totals.specs.LookBack.{Game, is_sold, owner_said, sv_price_of, with_event}
use Rattle.totals.specs.Shares.{square_of, square_said}
use Rattle.history.specs.Sound.{IsSvPrice}
use Rattle.privates.specs.LimitsKept.{limits_kept}
use Rattle.privates.proofs.ParOfBoLemmas.{par_set_is_par}
use Rattle.privates.specs.UnderwayKept.{event_underway, unsold_before, waiting_silent}
use Rattle.privates.specs.Bank.{MayPay}
use Rattle.privates.specs.ParOfBo.{par_set_by}
use Rattle.privates.specs.Underway.{IsUnderway, IsWaiting}
use Rattle.tables.specs.Chart.{par_square_of}
use Rattle.tables.specs.declared.roster.Company.TheVariants as company
use Rattle.tables.specs.declared.roster.Private.{Private}
use Rattle.tables.specs.declared.roster.Private.TheVariants.{SchuylkillValley, CamdenAmboy, BaltimoreOhio}
use Rattle.tables.specs.declared.seat.Seat.{Seat}
use Rattle.tables.specs.declared.squares.Square.{Square}

-- 5 less than a price of SV that is more than 5
fallen_price : (before after : ℕ) → after ≡ before - 5 → after ≢ 0 → IsSvPrice before → IsSvPrice after
fallen_price before after fallen some price =
    elim price [
      | inl e ↦ inr (inl (omega arith))
      | inr rest ↦ elim rest [
        | inl e ↦ inr (inr (inl (omega arith)))
        | inr rest ↦ elim rest [
          | inl e ↦ inr (inr (inr (inl (omega arith))))
          | inr rest ↦ elim rest [ inl e ↦ absurd (omega arith) | inr e ↦ absurd (omega arith) ]
        ]
      ]
    ]

-- the fall of SV's price, but not to 0
pub price_underway : (game new : Game) (price : ℕ) → price ≡ sv_price_of game.events - 5 → price ≢ 0
    → new ≡ with_event game (event.Price price) → IsUnderway game → IsUnderway new
price_underway game new price fallen some recorded before =
    event_underway game new (event.Price price) refl (λ its seat. refl) recorded
    (price_sound game price (fallen_price (sv_price_of game.events) price fallen some before.game.sound.price)
    (λ none. absurd (some none)) before.game.sound) before

-- one list of the same events
pub two_more : {A : Type 0} (events : List A) (a b : A) → (events ++ a ∷ []) ++ b ∷ [] ≡ events ++ a ∷ b ∷ []
two_more events a b = append_assoc events (a ∷ []) (b ∷ [])

-- so of four more
pub four_more : {A : Type 0} (events : List A) (a b c d : A)
    → (((events ++ a ∷ []) ++ b ∷ []) ++ c ∷ []) ++ d ∷ [] ≡ events ++ a ∷ b ∷ c ∷ d ∷ []
four_more events a b c d =
    append_assoc ((events ++ a ∷ []) ++ b ∷ []) (c ∷ []) (d ∷ [])
    ∙ append_assoc (events ++ a ∷ []) (b ∷ []) (c ∷ d ∷ []) ∙ append_assoc events (a ∷ []) (b ∷ c ∷ d ∷ [])

-- SV's price falls to 0, and it is given away
pub gift_underway : (game new : Game) (seat : Seat) → is_sold game.events SchuylkillValley ≡ false
    → seat.0 < game.seats → new ≡ with_event (with_event game (event.Price 0)) (event.Sold SchuylkillValley seat 0)
    → IsUnderway game → IsUnderway new
gift_underway game new seat unsold seated recorded before =
    subst IsUnderway (sym recorded)
    (record {
      game = record { few = before.game.few; sound = gift_sound game seat unsold seated before.game.sound };
      waiting = waiting_silent (game.events ++ event.Price 0 ∷ []) (event.Sold SchuylkillValley seat 0) refl
          (λ its other. refl) (waiting_silent game.events (event.Price 0) refl (λ its other. refl) before.waiting);
    })

-- a sale without a gift
pub sold_underway : (game new : Game) (private : Private) (buyer : Seat) (price : ℕ)
    → MayPay game.seats game.events buyer private price → buyer.0 < game.seats
    → new ≡ with_event game (event.Sold private buyer price) → IsUnderway game → IsUnderway new
sold_underway game new private buyer price may seated recorded before =
    event_underway game new (event.Sold private buyer price) refl (λ its seat. refl) recorded
    (sale_sound game private buyer price may.unsold seated may.free before.game.sound) before

-- the sale of CA with its gift
pub ca_underway : (game new : Game) (buyer : Seat) (price : ℕ) → MayPay game.seats game.events buyer CamdenAmboy price
    → buyer.0 < game.seats → new ≡ with_event (with_event game (event.Sold CamdenAmboy buyer price))
    (event.Given company.Pennsylvania buyer 1) → IsUnderway game → IsUnderway new
ca_underway game new buyer price may seated recorded before =
    subst IsUnderway (sym recorded)
    (record {
      game = record {
        few = before.game.few;
        sound = ca_sound game buyer price may.unsold (before.waiting.pennsylvania may.unsold) seated may.free
            before.game.sound;
      };
      waiting = waiting_silent (game.events ++ event.Sold CamdenAmboy buyer price ∷ [])
          (event.Given company.Pennsylvania buyer 1) refl (λ its other. refl)
          (waiting_silent game.events (event.Sold CamdenAmboy buyer price) refl (λ its other. refl) before.waiting);
    })

-- a private that is sold is sold
sold_now : (events : List Event) (buyer : Seat) (price : ℕ)
    → is_sold (events ++ event.Sold BaltimoreOhio buyer price ∷ []) BaltimoreOhio ≡ true
sold_now events buyer price =
    ap is_some (last_said_at_end (λ e. owner_said BaltimoreOhio (ownership_of e)) events
    (event.Sold BaltimoreOhio buyer price))

-- BO's par places no other company
places_baltimore : (square : Option Square) → square_said company.Pennsylvania (placement_on company.BaltimoreOhio square)
    ≡ None
places_baltimore None = refl
places_baltimore (Some square) = refl

-- BO's par, once BOP is sold
par_waiting : (events : List Event) (price : ℕ) → is_sold events BaltimoreOhio ≡ true → IsWaiting events
    → IsWaiting (events ++ event.Par company.BaltimoreOhio price ∷ [])
par_waiting events price sold before =
    let par : Event = event.Par company.BaltimoreOhio price in
    record {
      pennsylvania = λ unsold.
          last_said_before (λ e. square_said company.Pennsylvania (square_set e)) (events ++ par ∷ []) events par refl
          (places_baltimore (par_square_of price))
          ∙ before.pennsylvania (unsold_before events par CamdenAmboy unsold);
      baltimore = λ unsold. let still = unsold_before events par BaltimoreOhio unsold in cc;
      limits = limits_kept events par (λ its seat. refl) before.limits;
    }

-- the sale of BOP with the start of BO
pub bop_underway : (game new : Game) (buyer : Seat) (price par : ℕ)
    → MayPay game.seats game.events buyer BaltimoreOhio price → buyer.0 < game.seats
    → par ≡ par_set_by game.events buyer → new ≡ with_event
    (with_event (with_event (with_event game (event.Sold BaltimoreOhio buyer price))
    (event.Par company.BaltimoreOhio par)) (event.Given company.BaltimoreOhio buyer 2))
    (event.President company.BaltimoreOhio buyer) → IsUnderway game → IsUnderway new
bop_underway game new buyer price par may seated is_par recorded before =
    let sold : Game = with_event game (event.Sold BaltimoreOhio buyer price) in
    let unplaced : square_of sold.events company.BaltimoreOhio ≡ None =
    square_of_before game.events (event.Sold BaltimoreOhio buyer price) company.BaltimoreOhio refl
    ∙ before.waiting.baltimore may.unsold
    in
    let after_sold : IsWaiting sold.events = waiting_silent game.events (event.Sold BaltimoreOhio buyer price) refl
    (λ its other. refl) before.waiting in
    let after_par : IsWaiting (sold.events ++ event.Par company.BaltimoreOhio par ∷ []) =
    par_waiting sold.events par (sold_now game.events buyer price) after_sold in
    let after_gift = waiting_silent (sold.events ++ event.Par company.BaltimoreOhio par ∷ [])
    (event.Given company.BaltimoreOhio buyer 2) refl (λ its other. refl) after_par in
    subst IsUnderway (sym recorded)
    (record {
      game = record {
        few = before.game.few;
        sound = started_sound sold company.BaltimoreOhio buyer par
            (ap is_par_value is_par ∙ par_set_is_par game.events buyer) unplaced seated
            (sale_sound game BaltimoreOhio buyer price may.unsold seated may.free before.game.sound);
      };
      waiting = waiting_silent ((sold.events ++ event.Par company.BaltimoreOhio par ∷ [])
          ++ event.Given company.BaltimoreOhio buyer 2 ∷ []) (event.President company.BaltimoreOhio buyer) refl
          (λ its other. refl) after_gift;
    })
