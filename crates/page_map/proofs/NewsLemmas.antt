-- What the last round has is seen from its own events.
use Rattle.std.proofs.Common.{◌≡◌, ℕ, ◌+◌, ◌-◌, ◌<◌, ◌≤◌, Bool, true, false, ◌&&◌, ◌||◌, List, ◌∷◌, []}
use Rattle.std.proofs.Common.{length, take, drop, get_or, refl, sym, ap, subst, ◌∙◌, arith, Option, Some, None}
use Rattle.std.specs.Prelude.{is_none, is_some}
use Rattle.std.proofs.lemmas.Bool.{false≢true}
use Rattle.std.specs.List.{fold}
use Rattle.std.proofs.lemmas.List.{length-drop, take-append-drop, take_more}
use Rattle.std.proofs.Math.Seq.{take-length}
use Rattle.std.proofs.lemmas.List.Sums.{fold-append}
use Rattle.events.specs.Event.{round_begun_by}
use Rattle.events.specs.declared.event.Event.{Event}
use Rattle.page_map.specs.News.{in_last_round, new_then}
use Rattle.tables.specs.declared.round.Round.{Round}

-- what is left from a place on, up to the end
pub left_whole : (events : List Event) (from : ℕ)
    → take (length events - from) (drop from events) ≡ drop from events
left_whole events from = rw (← length-drop from events) (take-length (drop from events))

-- the events from a place on have the last round, if nothing before them is new
after_none : (is_it : Event → Bool) (events : List Event) (from : ℕ)
    → in_last_round is_it (take from events) ≡ false
    → in_last_round is_it (drop from events) ≡ in_last_round is_it events
after_none is_it events from none =
    ap (λ (is_new : Bool). fold (new_then is_it) is_new (drop from events)) (sym none)
    ∙ sym (fold-append (new_then is_it) false (take from events) (drop from events))
    ∙ ap (in_last_round is_it) (take-append-drop from events)

-- nothing is new as a round begins
behind_round : (is_it : Event → Bool) (events : List Event) (before : ℕ) (event : Event)
    → before < length events → is_none (round_begun_by (get_or events before event)) ≡ false
    → in_last_round is_it (drop (before + 1) events) ≡ in_last_round is_it events
behind_round is_it events before event within begins =
    after_none is_it events (before + 1)
    (ap (in_last_round is_it) (take_more events before event within)
    ∙ fold-append (new_then is_it) false (take before events) (get_or events before event ∷ [])
    ∙ ap (λ (b : Bool). b && (in_last_round is_it (take before events) || is_it (get_or events before event))) begins)

-- an event that begins a round
begins_one : (round : Option Round) → is_some round ≡ true → is_none round ≡ false
begins_one None some = absurd (false≢true some)
begins_one (Some round) some = refl

-- the events behind one that begins a round have all that the last round has
pub from_round : (is_it : Event → Bool) (events : List Event) (from : ℕ) (event : Event) → 0 < from
    → from ≤ length events → is_some (round_begun_by (get_or events (from - 1) event)) ≡ true
    → in_last_round is_it (drop from events) ≡ in_last_round is_it events
from_round is_it events from event some within begins =
    let next : (from - 1) + 1 ≡ from = omega (arith, some) in
    subst (λ (n : ℕ). in_last_round is_it (drop n events) ≡ in_last_round is_it events) next
    (behind_round is_it events (from - 1) event (omega (arith, some, within))
    (begins_one (round_begun_by (get_or events (from - 1) event)) begins))
