-- A gift of shares keeps a list sound; so does CA's sale with its gift.
use Rattle.std.proofs.Common.{◌≡◌, ℕ, Bool, true, if◌then◌else◌, is_some, pos, ◌≤ℤ◌}
use Rattle.std.proofs.Common.{refl, ap, arith}
use Rattle.std.proofs.lemmas.Int.{ints}
use Rattle.events.specs.Event.{ownership_of}
use Rattle.events.specs.declared.event.Event.TheVariants.{Given, Sold}
use Rattle.events.specs.declared.event.Shareholder.TheVariants.{InitialOffering, Seat as OfSeat}
use Rattle.events.specs.declared.event.Transfer.{Transfer}
use Rattle.history.proofs.Acts.{sale_sound}
use Rattle.totals.proofs.EventAtEnd.{last_said_at_end, shares_of_before}
use Rattle.history.proofs.ShareCount.{gain_leads, left_after, move_shows}
use Rattle.history.proofs.Soundness.{nearly_sound_of, sound_after}
use Rattle.history.specs.Laws.{CaIsSoldWithItsGift, GiftKeepsSound}
use Rattle.totals.specs.LookBack.{is_sold, owner_said, with_event}
use Rattle.totals.specs.Shares.{shares_of}
use Rattle.history.specs.Sound.{least_offered}
use Rattle.tables.specs.declared.roster.Company.{Company}
use Rattle.tables.specs.declared.roster.Company.TheVariants.{Pennsylvania}
use Rattle.tables.specs.declared.roster.Private.TheVariants.{CamdenAmboy}
use Rattle.tables.specs.declared.seat.Seat.{Seat}

-- the shares of a gift
abbrev pub gift : Company → Seat → ℕ → Transfer
gift company seat shares = record { company = company; from = InitialOffering; to = OfSeat seat; shares = shares }

-- a gift to a seat at the table
pub given_sound : GiftKeepsSound
given_sound game company seat shares seated many more sound =
    let shares_given = gift company seat shares in
    sound_after game (Given company seat shares)
    (move_shows game (Given company seat shares) shares_given refl refl tt seated many
    (left_after game.events shares_given more sound.offered) (nearly_sound_of game sound))
    (gain_leads game (Given company seat shares) shares_given refl tt refl refl refl refl sound) sound

-- CA's sale, with the share of PRR
pub ca_sound : CaIsSoldWithItsGift
ca_sound game seat price unsold unplaced seated affordable sound =
    let mid = with_event game (Sold CamdenAmboy seat price) in
    let sold : is_sold mid.events CamdenAmboy ≡ true =
    ap is_some (last_said_at_end (λ e. owner_said CamdenAmboy (ownership_of e)) game.events
    (Sold CamdenAmboy seat price)) in
    let eight : least_offered mid.events Pennsylvania ≡ 8 = ap (λ (now : Bool). if now then 8 else 9) sold in
    let nine : least_offered game.events Pennsylvania ≡ 9 = ap (λ (now : Bool). if now then 8 else 9) unsold in
    let offered : pos (least_offered game.events Pennsylvania) ≤ℤ shares_of game.events Pennsylvania InitialOffering =
    sound.offered Pennsylvania unplaced in
    let same = shares_of_before game.events (Sold CamdenAmboy seat price) Pennsylvania InitialOffering refl in
    given_sound mid Pennsylvania seat 1 seated (omega (arith, ints)) (λ _. omega (arith, ints))
    (sale_sound game CamdenAmboy seat price unsold seated affordable sound)
