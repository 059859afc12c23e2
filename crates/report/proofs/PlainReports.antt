-- What a report says of a file of version 1, and of orders without a condition.
use Rattle.std.proofs.Common.{◌≡◌, ℕ, true, List, [], ◌∷◌, ◌++◌, codes, Some, None, ap, refl, sym, subst}
use Rattle.std.proofs.lemmas.Bool.{and_parts}
use Rattle.std.specs.List.{AllByRecursion, list_all}
use Rattle.events.specs.declared.event.Event.{Event}
use Rattle.events.specs.declared.event.Event.TheVariants.{Ruled}
use Rattle.events.specs.declared.ruling.Ruling.TheVariants.{Obeyed, Refused, Faulty}
use Rattle.totals.specs.LookBack.{Game}
use Rattle.order_grammar.specs.Print.{spaced}
use Rattle.order_grammar.specs.declared.condition.Version.{Version}
use Rattle.order_grammar.specs.declared.condition.Version.TheVariants.{One}
use Rattle.report.specs.Laws.{PlainReports, NamesNoCondition}
use Rattle.report.specs.Report.{game_line, header, players_line}
use Rattle.rounds.specs.PlainLines.{VersionOneIsRuledPlainly, is_plain}
use Rattle.rounds.specs.Play.{IsTheGame, Played}
use Rattle.sheets.specs.File.{players_of, version_of}

-- the header of a file of version 1
plain_header : (file : List ℕ) → version_of file ≡ One →
    header file ≡ codes "GAME 1830 1" ++ 10 ∷ codes "PLAYERS" ++ spaced (players_of file) ++ 10 ∷ []
unfolding header
plain_header file one = ap (λ (version : Version). game_line version ++ players_line file) one

-- a plain event names none
tells_none : (file : List ℕ) (event : Event) → is_plain event ≡ true → NamesNoCondition file event
tells_none file (Ruled seat line (Obeyed None order)) plain = refl
tells_none file (Ruled seat line (Obeyed (Some condition) order)) plain = absurd (cc)
tells_none file (Ruled seat line (Refused rule None order)) plain = refl
tells_none file (Ruled seat line (Refused rule (Some condition) order)) plain = absurd (cc)
tells_none file (Ruled seat line (Faulty fault)) plain = refl
tells_none file other plain = tt

-- nor do plain events
all_tell_none : (file : List ℕ) (events : List Event) → list_all is_plain events ≡ true →
    AllByRecursion (NamesNoCondition file) events
all_tell_none file [] plain = tt
all_tell_none file (event ∷ events) plain =
    let parts = and_parts (is_plain event) (list_all is_plain events) plain in
    (tells_none file event parts.0, all_tell_none file events parts.1)

-- nor does the game of such a file
game_tells_none : VersionOneIsRuledPlainly → (played : Played) → version_of played.file ≡ One → IsTheGame played →
    AllByRecursion (NamesNoCondition played.file) played.game.events
game_tells_none law played one its =
    subst (λ (game : Game). AllByRecursion (NamesNoCondition played.file) game.events) (sym its.game)
    (all_tell_none played.file its.last.game.events
    (law played.file its.plays.rounds its.last one its.plays.reached))

-- the report of such a file, and of such orders
pub plain : VersionOneIsRuledPlainly → PlainReports
plain law =
    record {
      head = plain_header;
      rulings = game_tells_none law;
      obeyed = λ file seat line order. refl;
      refused = λ file seat line rule order. refl;
    }
