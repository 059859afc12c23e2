-- The companies that move up, one after another.
use Rattle.std.proofs.Common.{◌≡◌, ℕ, ◌+◌, ◌<◌, if◌then◌else◌, List, ◌∷◌, length, drop, get_or, sym, ap}
use Rattle.std.proofs.Common.{◌∙◌, add-one}
use Rattle.std.proofs.Math.Seq.{drop-cons}
use Rattle.totals.specs.LookBack.{Game, with_events}
use Rattle.stock_round.specs.Closing.{all_risen, risen}
use Rattle.tables.specs.declared.roster.Company.{Company}

-- where the companies that are left lead after the next, they lead before it
pub rises_go_on : (old new : Game) (all : List Company) (i : ℕ) (d : Company) → i < length all
    → new ≡ with_events old (risen old.events (get_or all i d))
    → with_events new (all_risen new.events (drop (i + 1) all)) ≡ with_events old (all_risen old.events (drop i all))
rises_go_on old new all i d below recorded =
    ap (λ (game : Game). with_events game (all_risen game.events (drop (i + 1) all))) recorded
    ∙ sym (ap (λ (left : List Company). with_events old (all_risen old.events left))
    (drop-cons all i d below ∙ ap (λ (k : ℕ). get_or all i d ∷ drop k all) (sym (add-one i))))
