-- A copy of a state that is kept comes after the others.
use Rattle.std.proofs.Common.{◌≡◌, Some, length, slice_get, refl, sym, subst, arith}
use Rattle.std.proofs.lemmas.Option.{slice_get_read}
use Rattle.best_run.specs.declared.search_state.SearchState.{SearchState}
use Rattle.best_run.proofs.KeptStates.{kept_twin}
use Rattle.best_run.proofs.memo.Found.widen.Goals as goal

pub loop-place-preserved : goal.loop-place-preserved
loop-place-preserved c =
    let now = c.loop-place.self in
    let place = c.loop-place.place in
    let items = now.memo.items in
    let at : slice_get items place ≡ Some c.index.result.now =
    slice_get_read items (length items) place c.index.result.now refl
    (omega (arith, c.loop-place-test.true, c.loop-place.invariant.long)) c.index.ensures in
    let twin : slice_get items place ≡ Some c.copy-twin.result =
    subst (λ (s : SearchState). slice_get items place ≡ Some s) (sym c.copy-twin.ensures) at in
    record {
      kept = kept_twin c.args.search_state.now c.copy-twin.result c.args.self.now now _ place
          c.loop-place.invariant.kept twin refl refl c.in_ok-push-2.ensures.items;
      long = omega (arith, c.loop-place.invariant.long, c.in_ok-push-2.ensures.len);
      some = omega (arith, c.loop-place.invariant.some, c.in_ok-push-2.ensures.len);
    }
