use Rattle.std.proofs.Common.{◌≡◌, ◌<◌, ◌+ℤ◌, ◌-ℤ◌, ◌==◌, ℕ, [], if◌then◌else◌, get_or, length, pos, refl, ap, ◌∙◌}
use Rattle.std.proofs.Common.{rules}
use Rattle.certs.proofs.RowLemmas.{bounded_set}
use Rattle.certs.proofs.Transfers.{rows_after}
use Rattle.certs.specs.ShareRow.{index_of}
use Rattle.certs.proofs.holdings.Holdings.transfer.Goals as goal

pub invariant_of-self : goal.invariant_of-self
invariant_of-self c =
    let within : c.index-place.result < length c.args.self.now.shares = search rules in
    record {
      bounded = bounded_set c.args.self.now.shares c.index-place.result c.moved.result within
          c.moved.ensures.bounded c.args.self.now.bounded;
    }

pub returns : goal.returns
returns c =
    let within : c.index-place.result < length c.args.self.now.shares = search rules in
    let transfer = c.args.transfer in
    let moved : (k : ℕ) → k < 8 → get_or c.moved.result k (pos 0)
    ≡ (get_or (get_or c.args.self.now.shares c.index-place.result []) k (pos 0) +ℤ
    (if index_of transfer.to == k then pos transfer.shares else pos 0)) -ℤ
    (if index_of transfer.from == k then pos transfer.shares else pos 0) =
    λ k low.
    c.moved.ensures.moved k low
    ∙ ap (λ (n : ℕ). (get_or (get_or c.args.self.now.shares c.index-place.result []) k (pos 0) +ℤ
    (if n == k then pos transfer.shares else pos 0)) -ℤ
    (if c.index_of.result == k then pos transfer.shares else pos 0)) c.index_of-2.ensures
    ∙ ap (λ (n : ℕ). (get_or (get_or c.args.self.now.shares c.index-place.result []) k (pos 0) +ℤ
    (if index_of transfer.to == k then pos transfer.shares else pos 0)) -ℤ
    (if n == k then pos transfer.shares else pos 0)) c.index_of.ensures
    in
    record {
      shares = λ company place has. rows_after c.args.self.now.shares c.moved.result transfer c.index-place.result
          c.index-place.ensures.value within company place (moved (index_of place) has);
      seats = refl;
      presidents = refl;
      squares = refl;
      owners = refl;
    }
