-- Privates of one place in the roster are the same.
use Rattle.std.proofs.Common.{◌≡◌, ℕ, ◌==◌, true, if◌then◌else◌, refl, sym, ap, ◌∙◌}
use Rattle.std.proofs.lemmas.Bool.Decides.{Decides-eqb}
use Rattle.tables.specs.Roster.{index_of_private, same_private}
use Rattle.tables.specs.declared.roster.Private.{Private}
use Rattle.tables.specs.declared.roster.Private.TheVariants.{SchuylkillValley, ChamplainStLawrence, DelawareHudson}
use Rattle.tables.specs.declared.roster.Private.TheVariants.{MohawkHudson, CamdenAmboy, BaltimoreOhio}

-- the private at a place of the roster
abbrev private_at : ℕ → Private
private_at place =
    if place == 0 then SchuylkillValley else if place == 1 then ChamplainStLawrence else if place ==
    2 then DelawareHudson else if place == 3 then MohawkHudson else if place ==
    4 then CamdenAmboy else BaltimoreOhio

-- is the private
private_at_place : (private : Private) → private_at (index_of_private private) ≡ private
private_at_place SchuylkillValley = refl
private_at_place ChamplainStLawrence = refl
private_at_place DelawareHudson = refl
private_at_place MohawkHudson = refl
private_at_place CamdenAmboy = refl
private_at_place BaltimoreOhio = refl

-- privates of one place are the same
pub same_private_is : (a b : Private) → same_private a b ≡ true → a ≡ b
same_private_is a b same =
    sym (private_at_place a) ∙ ap private_at ((Decides-eqb (index_of_private a) (index_of_private b)).0 same)
    ∙ private_at_place b

-- a private is itself
pub private_itself : (private : Private) → same_private private private ≡ true
private_itself private = (Decides-eqb (index_of_private private) (index_of_private private)).1 refl
