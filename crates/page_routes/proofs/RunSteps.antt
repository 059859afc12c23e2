-- The lines by which companies ran, one event after another, and what is added by each.
use Rattle.std.proofs.Common.{◌≡◌, ℕ, ◌+◌, ◌<◌, ◌≤◌, Bool, List, [], ◌∷◌, ◌++◌, length, take, get_or, Option, Some, None, ap, sym, ◌∙◌, subst, refl, arith}
use Rattle.std.specs.Prelude.{IfSome, slice_get}
use Rattle.std.specs.List.{cons_option, fold}
use Rattle.std.proofs.lemmas.List.{take_all}
use Rattle.std.proofs.lemmas.List.Sums.{fold_more}
use Rattle.events.specs.declared.event.Event.{Event}
use Rattle.page_routes.specs.LastRuns.{AddsAt, AddsEach, AddsIf, AddsRan, RanSoFar, none_ran, ran_by, ran_then, ruled_then, those_in, within_then}
use Rattle.page_routes.specs.declared.routes.RunLine.{RunLine}
use Rattle.page_routes.specs.declared.routes.Route.{Route}
use Rattle.tables.specs.declared.round.Round.{Round}

-- how far one more event leads
pub ran_step : (round : Option Round) (events : List Event) (n : ℕ) (event : Event) (within now : Bool)
    (ruled then : Option ℕ) (lines : List RunLine) (line : Option RunLine) → n < length events → event ≡ get_or events n event
    → ◌≡◌ {A = RanSoFar} (record { within = within; passed = n; ruled = ruled; lines = lines })
    (fold (ran_then round) none_ran (take n events))
    → line ≡ ran_by within ruled n event → now ≡ within_then round within event → then ≡ ruled_then ruled n event
    → ◌≡◌ {A = RanSoFar} (record { within = now; passed = n + 1; ruled = then; lines = lines ++ cons_option line [] })
    (fold (ran_then round) none_ran (take (n + 1) events))
ran_step round events n event within now ruled then lines line below is before is_line is_now is_then =
    ap (λ (w : Bool). record { within = w; passed = n + 1; ruled = then; lines = lines ++ cons_option line [] }) is_now
    ∙ ap (λ (r : Option ℕ). record { within = within_then round within event; passed = n + 1; ruled = r; lines = lines ++ cons_option line [] }) is_then
    ∙ ap (λ (o : Option RunLine). record { within = within_then round within event; passed = n + 1; ruled = ruled_then ruled n event; lines = lines ++ cons_option o [] }) is_line
    ∙ ap (λ (so_far : RanSoFar). ran_then round so_far event) before
    ∙ ap (ran_then round (fold (ran_then round) none_ran (take n events))) is
    ∙ sym (fold_more (ran_then round) none_ran events n event below)

-- what is added by some lines, and then by one more, if there is one
pub adds_more : (events : List Event) (lines : List RunLine) (line : Option RunLine) (old mid new : List Route)
    → AddsEach events lines old mid → AddsIf events line mid new
    → AddsEach events (lines ++ cons_option line []) old new
adds_more events [] None old mid new same adds = adds ∙ same
adds_more events [] (Some line) old mid new same adds =
    (new, subst (λ (start : List Route). AddsRan events line start new) same adds, refl)
adds_more events (first ∷ lines) line old mid new each adds =
    (each.0, each.1, adds_more events lines line each.0 mid new each.2 adds)

-- what is added by the list is added by the same list
pub adds_here : (list events : List Event) (line : Option RunLine) (old new : List Route) → list ≡ events
    → AddsIf list line old new → AddsIf events line old new
adds_here list events line old new same adds = subst (λ (its : List Event). AddsIf its line old new) same adds

-- what is added by a line, by the map as it was then
pub adds_then : (all now view : List Event) (passed : ℕ) (line : RunLine) (event : Option Event) (old new : List Route)
    → now ≡ all → passed ≡ line.passed → view ≡ take passed now → event ≡ slice_get all line.ruled
    → AddsAt view line.company event old new → AddsRan all line old new
adds_then all now view passed line event old new same here is_view is_event adds =
    subst (λ (one : Option Event). AddsAt (take line.passed all) line.company one old new) is_event
    (subst (λ (list : List Event). AddsAt list line.company event old new)
    (is_view ∙ ap (λ (n : ℕ). take n now) here ∙ ap (take line.passed) same) adds)

-- all lines of a round are those by all events
pub adds_all : (round : Option Round) (events : List Event) (n : ℕ) (within : Bool) (ruled : Option ℕ)
    (lines : List RunLine) (old new : List Route) → length events ≤ n
    → ◌≡◌ {A = RanSoFar} (record { within = within; passed = n; ruled = ruled; lines = lines })
    (fold (ran_then round) none_ran (take n events))
    → AddsEach events lines old new → AddsEach events (those_in round events) old new
adds_all round events n within ruled lines old new whole is adds =
    subst (λ (all : List RunLine). AddsEach events all old new)
    (ap (λ (so_far : RanSoFar). so_far.lines) is
    ∙ ap (λ (list : List Event). (fold (ran_then round) none_ran list).lines) (take_all n events whole)) adds

-- a line of this event is within the list
pub within_list : (line : Option RunLine) (n : ℕ) (list events : List Event) → IfSome line (λ one. one.passed ≡ n)
    → n < length events → list ≡ events → IfSome line (λ one. one.passed ≤ length list)
within_list None n list events here below same = tt
within_list (Some one) n list events here below same =
    let long : length list ≡ length events = ap length same in
    omega (arith, here, below, long)
