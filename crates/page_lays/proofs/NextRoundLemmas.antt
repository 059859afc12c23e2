-- What may be done before the next round of a file's game.
use Rattle.std.proofs.Common.{◌≡◌, ◌⊎◌, inl, inr, ℕ, List, Option, Some, None, refl, subst, sym}
use Rattle.desk_base.specs.Played.{moment_after}
use Rattle.desk_base.specs.Positions.{IsAt}
use Rattle.desk_base.specs.declared.positions.Position.{Position}
use Rattle.page_lays.specs.NextRound.{IsMayAt, IsMayIn, IsMayNext}
use Rattle.page_lays.specs.declared.may.May.{May}
use Rattle.rounds.specs.declared.game.End.{End}
use Rattle.rounds.specs.declared.game.End.TheVariants.{Awaiting, Bank, Bankrupt}
use Rattle.tables.specs.declared.roster.Company.{Company}
use Rattle.tables.specs.declared.round.Round.{Round}

-- what may be done in a game that awaits a round is what may be done next
pub is_may_next : (file : List ℕ) (after : Option Round) (companies : List Company) (round : Round) (coming : Position)
    (may : May) → IsAt file (moment_after after) coming → coming.end ≡ Awaiting round
    → IsMayIn companies round coming.sheets.now coming.history may → IsMayNext file after companies (Some may)
is_may_next file after companies round coming may is_coming awaits is_may =
    record {
      coming = coming;
      is_coming = is_coming;
      is_may =
          subst (λ (end : End). IsMayAt companies file coming.history end (Some may)) (sym awaits)
          (subst (λ (its : List ℕ). IsMayIn companies round its coming.history may) is_coming.sheets
          is_may);
    }

-- and once a game is over nothing
pub is_over : (file : List ℕ) (after : Option Round) (companies : List Company) (coming : Position)
    → IsAt file (moment_after after) coming → (coming.end ≡ Bank) ⊎ (coming.end ≡ Bankrupt)
    → IsMayNext file after companies None
is_over file after companies coming is_coming over =
    record {
      coming = coming;
      is_coming = is_coming;
      is_may =
          elim over [
            | inl bank ↦ subst (λ (end : End). IsMayAt companies file coming.history end None) (sym bank) refl
            | inr bankrupt ↦ subst (λ (end : End). IsMayAt companies file coming.history end None) (sym bankrupt) refl
          ];
    }
