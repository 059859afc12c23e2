-- A private that a company buys from the seat that owns it keeps a list sound.
use Rattle.std.proofs.Common.{◌≡◌, false, ◌&&◌, Option, Some, None, is_some, is_none, refl}
use Rattle.std.specs.Option.{option_flatten}
use Rattle.events.specs.Event.{ownership_of}
use Rattle.events.specs.declared.event.Event.TheVariants.{PrivateBought}
use Rattle.events.specs.declared.event.Holder.{Holder}
use Rattle.events.specs.declared.event.Holder.TheVariants as holder
use Rattle.history.proofs.Acts.{stays_closed}
use Rattle.history.proofs.Money.{owner_is_party}
use Rattle.history.proofs.Payments.{can_pay}
use Rattle.history.proofs.Soundness.{offered_after, paying, sound_after}
use Rattle.history.specs.Laws.{PrivateKeepsSound}
use Rattle.totals.specs.LookBack.{last_said, owner_said}
use Rattle.tables.specs.declared.roster.Private.TheVariants.{MohawkHudson}

-- a private that has an owner is not closed
pub not_closed : (word : Option (Option Holder)) (owner : Holder) → option_flatten word ≡ Some owner
    → (is_some word && is_none (option_flatten word)) ≡ false
not_closed None owner has = refl
not_closed (Some None) owner has = absurd cc
not_closed (Some (Some word)) owner has = refl

-- a private that a company buys
pub private_sound : PrivateKeepsSound
private_sound game private company seller price owns enough sound =
    let bought = PrivateBought private company seller price in
    let standing = not_closed (last_said (λ e. owner_said private (ownership_of e)) game.events) (holder.Seat seller) owns in
    sound_after game bought (paying game bought refl sound.solvent
    (λ other. can_pay game company other price enough sound.companies)
    (tt, owner_is_party game private (holder.Seat seller) sound owns) (
      offered_after game bought refl (stays_closed game.events bought private MohawkHudson (holder.Company company) refl
          standing) sound.offered,
      tt,
    )) tt sound
