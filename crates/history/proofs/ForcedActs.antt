-- A forced purchase keeps a list sound: that it is due, what the president pays of it, and that the
-- president is bankrupt.
use Rattle.std.proofs.Common.{refl}
use Rattle.events.specs.declared.event.Event.TheVariants.{Aid, Bankrupt, Forced}
use Rattle.history.proofs.Payments.{can_afford}
use Rattle.history.proofs.Soundness.{paying, sound_after}
use Rattle.history.specs.Laws.{AidKeepsSound, BankruptcyKeepsSound, ForcingKeepsSound}

-- a purchase that is due
pub forcing_sound : ForcingKeepsSound
forcing_sound game company = sound_after game (Forced company) tt tt

-- a president that is bankrupt
pub bankruptcy_sound : BankruptcyKeepsSound
bankruptcy_sound game seat = sound_after game (Bankrupt seat) tt tt

-- what a president pays
pub aid_sound : AidKeepsSound
aid_sound game seat company amount seated affordable sound =
    sound_after game (Aid seat company amount) (paying game _ refl
    (λ by. can_afford game seat by amount affordable sound.solvent) sound.companies (seated, tt) tt) tt sound
