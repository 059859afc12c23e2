use Rattle.std.proofs.Common.{◌≡◌, true, false, None, take, is_some, refl, sym, ap, ◌∙◌, arith}
use Rattle.std.proofs.lemmas.List.{take_all}
use Rattle.std.specs.List.{list_any}
use Rattle.std.specs.Map.{keys_of}
use Rattle.indexmap.proofs.CallerLemmas.{insert_entry-new}
use Rattle.sheets.specs.File.{all_differ, with_seats}
use Rattle.sheets.proofs.PlayerLemmas.{is_equal, seat_there, repeated, now_seated, now_differ, no_players, all_play}
use Rattle.sheets.proofs.PlayerLemmas.{keys_of-seats}
use Rattle.sheets.proofs.players.players_from.Goals as goal
use Rattle.tables.proofs.Tests.{none_by_is_some}

pub returns-then-is_some : goal.returns-then-is_some
returns-then-is_some c =
    let names = c.args.names.now in
    let i = c.loop-index.index in
    let name = c.index-names-index.result in
    let earlier = c.in_ok-earlier.earlier in
    let some : is_some earlier ≡ true = sym c.is_some.ensures ∙ c.if-is_some.true in
    let among : list_any (is_equal name) (take i names) ≡ true =
    seat_there c.loop-index.seats.entries (take i names) name earlier c.loop-index.invariant.kept
    c.in_ok-earlier.ensures.old ∙ some in
    no_players names (repeated names (take i names) i name c.loop-index-test.true c.index-names-index.is refl among)

pub loop-index-preserved : goal.loop-index-preserved
loop-index-preserved c =
    let names = c.args.names.now in
    let i = c.loop-index.index in
    let name = c.index-names-index.result in
    let earlier = c.in_ok-earlier.earlier in
    let none : is_some earlier ≡ false = sym c.is_some.ensures ∙ c.if-is_some.false in
    let absent : earlier ≡ None = none_by_is_some earlier none in
    let new : list_any (is_equal name) (take i names) ≡ false =
    seat_there c.loop-index.seats.entries (take i names) name earlier c.loop-index.invariant.kept
    c.in_ok-earlier.ensures.old ∙ none in
    let added = c.in_ok-earlier.ensures.entries ∙ insert_entry-new is_equal c.loop-index.seats name (record { 0 = i })
    (sym c.in_ok-earlier.ensures.old ∙ absent) in
    record {
      kept = now_seated names (take i names) i name c.loop-index-test.true c.index-names-index.is refl
          c.loop-index.seats.entries c.insert.new.self.entries c.loop-index.invariant.kept added;
      differ = now_differ names (take i names) i name c.loop-index-test.true c.index-names-index.is refl new
          c.loop-index.invariant.differ;
    }

-- at the end all names have come
pub invariant_of-result : goal.invariant_of-result
invariant_of-result c =
    let names = c.args.names.now in
    let kept = c.loop-index.invariant.kept in
    kept ∙ ap (with_seats 0) (sym (ap keys_of kept ∙ keys_of-seats 0 (take c.loop-index.index names)))

pub returns : goal.returns
returns c =
    let names = c.args.names.now in
    let i = c.loop-index.index in
    let all : take i names ≡ names = take_all i names c.loop-index-test.false in
    let kept = ap keys_of c.loop-index.invariant.kept ∙ keys_of-seats 0 (take i names) ∙ all in
    all_play names _ (omega arith) (omega arith) (ap all_differ (sym all) ∙ c.loop-index.invariant.differ) kept
