use Rattle.purchases.proofs.Folding.{fold_goes_on}
use Rattle.purchases.specs.Phases.{with_company_rusted}
use Rattle.purchases.proofs.phases.rust_of_companies.Goals as goal
use Rattle.tables.specs.Roster.{companies}

pub loop-company-preserved : goal.loop-company-preserved
loop-company-preserved c =
    record {
      so_far = fold_goes_on (with_company_rusted c.args.kind) c.args.history.now c.loop-company.history
          c.rust_trains_of.new.history companies c.loop-company.company-index _ c.loop-company-test.true
          c.loop-company.invariant.so_far c.in_ok-rust_trains_of.ensures.after;
      sound = c.in_ok-rust_trains_of.ensures.sound;
    }
