-- The state is where it was put.
use Rattle.std.proofs.Common.{◌≡◌, ◌%◌, Some, slice_get, set, refl, subst, arith}
use Rattle.best_run.specs.declared.search_state.SearchState.{SearchState}
use Rattle.best_run.proofs.KeptStates.{put_only, set_held}
use Rattle.best_run.proofs.memo.Found.put.Goals as goal

pub returns-then-places-gt0-clause-kept : goal.returns-then-places-gt0-clause-kept
returns-then-places-gt0-clause-kept c =
    record {
      amount = refl;
      marks = refl;
      refused = λ none. none;
      only = λ place entry there. put_only c.args.search_state.now c.copy.result c.args.self.now
          (c.place.result % c.len-places.result) place entry c.copy.ensures there;
    }

pub returns-then-places-gt0-clause-held : goal.returns-then-places-gt0-clause-held
returns-then-places-gt0-clause-held c some =
    let items = c.args.self.now.memo.items in
    let place = c.place.result % c.len-places.result in (
      place,
      subst (λ (s : SearchState). slice_get (set items place c.copy.result) place ≡ Some s) c.copy.ensures
          (set_held items place c.copy.result (omega arith)),
    )
