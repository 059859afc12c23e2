-- All that was said of a thing, in order, and the counts of tokens and of a seat's rulings, once
-- one more event is at the end.
use Rattle.std.proofs.Common.{◌≡◌, ℕ, ◌+◌, List, [], ◌∷◌, ◌++◌, Option, Some, None, Bor, option_copied, cond, count_by}
use Rattle.std.proofs.Common.{slice_get, ap, sym, ◌∙◌}
use Rattle.std.proofs.lemmas.Option.{slice_get-get_or, slice_get_past}
use Rattle.std.specs.Slice.{IsItemAt}
use Rattle.std.proofs.lemmas.List.{append-nil}
use Rattle.std.proofs.lemmas.List.Elements.{filter_map-append}
use Rattle.std.specs.List.{cons_option, filter_map}
use Rattle.std.proofs.lemmas.List.Sums.{fold_push, sum_by-append}
use Rattle.events.specs.Event.{Lay, Place, tile_laid, token_placed}
use Rattle.events.specs.declared.event.Event.{Event}
use Rattle.totals.specs.AtEnd.{LaysGrow, RulingsAreCounted, TokensGrow}
use Rattle.totals.specs.Operating.{lays_of, rulings_then, tokens_of, tokens_placed}
use Rattle.tables.specs.Roster.{same_company}
use Rattle.tables.specs.declared.roster.Company.{Company}

-- the tile of the event at the end is the last
pub lays_grow : LaysGrow
lays_grow events event = filter_map-append tile_laid events (event ∷ [])

-- and the token
pub tokens_grow : TokensGrow
tokens_grow events event = filter_map-append token_placed events (event ∷ [])

-- an event that lays no tile leaves those that were laid
pub lays_before : (events : List Event) (event : Event) → tile_laid event ≡ None
    → lays_of (events ++ event ∷ []) ≡ lays_of events
lays_before events event none =
    lays_grow events event ∙ ap (λ (said : Option Lay). lays_of events ++ cons_option said []) none
    ∙ append-nil (lays_of events)

-- and one that places no token the tokens
pub tokens_before : (events : List Event) (event : Event) → token_placed event ≡ None
    → tokens_of (events ++ event ∷ []) ≡ tokens_of events
tokens_before events event none =
    tokens_grow events event ∙ ap (λ (said : Option (Place × Company)). tokens_of events ++ cons_option said []) none
    ∙ append-nil (tokens_of events)

-- and the ruling is counted
pub rulings_at_end : RulingsAreCounted
rulings_at_end events event seat = fold_push (rulings_then seat) 0 events event

-- a company's tokens, with those that the event at the end places
pub tokens_at_end :
    (events : List Event) (event : Event) (company : Company) →
    tokens_placed (events ++ event ∷ []) company ≡ tokens_placed events company + tokens_placed (event ∷ []) company
tokens_at_end events event company =
    ap (λ tokens. count_by (λ token. same_company token.1 company) tokens) (tokens_grow events event)
    ∙ sum_by-append (λ token. cond (same_company token.1 company) 1 0) (tokens_of events) (tokens_of (event ∷ []))

-- a list of all that was said, with what the event at the end says
pub all_kept :
    {A : Type 0} (says : Event → Option A) (events : List Event) (event : Event) (before after : List A)
    (said : Option A) → before ≡ filter_map says events →
    said ≡ says event → after ≡ before ++ cons_option said [] → after ≡ filter_map says (events ++ event ∷ [])
all_kept says events event before after said kept speaks grows =
    grows
    ∙ ap (λ all. all ++ cons_option said []) kept
    ∙ ap (λ word. filter_map says events ++ cons_option word []) speaks
    ∙ sym (filter_map-append says events (event ∷ []))

-- what is lent of a list at a place
pub lent_at : {A : Type 0} (list : List A) (place : ℕ) (lent : Option (Bor A)) → IsItemAt list place lent
    → option_copied lent ≡ slice_get list place
lent_at list place None is = sym (slice_get_past list place is.3)
lent_at list place (Some item) is = ap Some is.1 ∙ sym (slice_get-get_or list place item.now is.3.0)
