-- What is in the list of an awaited round, played with new sheets, is what the report of the file with
-- them says.
use Rattle.std.proofs.Common.{◌≡◌, ℕ, suc, false, List, [], ◌∷◌, ◌++◌, append_assoc, sym, ap, subst, ◌∙◌}
use Rattle.desk_promise.proofs.GameBefore.{IsPosted, after_round, now_posted, one_more, played_before}
use Rattle.desk_promise.proofs.Longer.{GoesOn}
use Rattle.desk_promise.proofs.ReportText.{reported_next}
use Rattle.desk_promise.proofs.TurnPromise.{of_accepted}
use Rattle.desk_promise.specs.Reported.{IsReportedNext}
use Rattle.events.specs.declared.event.Event.{Event}
use Rattle.events.specs.declared.event.Event.TheVariants as event
use Rattle.report.specs.Report.{IsReport}
use Rattle.rounds.proofs.Coming.{comes_once}
use Rattle.rounds.proofs.OneGame.{OneOpeningRound, OneStockRound, on_the_way}
use Rattle.rounds.specs.Begun.{RoundsOnlyAdd}
use Rattle.rounds.specs.OperatingRound.{OneOperatingRound}
use Rattle.rounds.specs.Play.{AreRounds, Between, IsPlayed, IsRound, Plays, before_play, end_of, goes_on}
use Rattle.rounds.specs.ReadAlike.{SameSheetsAreReadAlike}
use Rattle.rounds.specs.declared.following.Next.TheVariants as next
use Rattle.sheets.specs.File.{IsAccepted, all_posted, content_of}
use Rattle.tables.specs.declared.round.Round.{Round}
use Rattle.totals.specs.LookBack.{Game}

-- the laws of rounds on which this rests
pub record RoundLaws : Type 0 where
  pub alike : SameSheetsAreReadAlike
  pub adds : RoundsOnlyAdd
  pub one_opening : OneOpeningRound
  pub one_stock : OneStockRound
  pub one_operating : OneOperatingRound

pub played_reported : RoundLaws → (file new : List ℕ) (last : Between) (round : Round) → Plays file last
    → last.next ≡ next.Round round → IsPosted file new round → IsAccepted new
    → (game : Game) → IsPlayed new round last.game game → (text : List ℕ) → IsReport new text → (head : Game)
    (said : List Event) → GoesOn (last.game.events ++ event.Round round ∷ []) head.events
    → GoesOn (head.events ++ said) game.events → IsReportedNext new text last.game round head said
played_reported laws file new last round plays comes has also game kind text report head said heading stands =
    let whole = of_accepted new text (content_of new) also report in
    let mid = after_round round last game in
    let not_yet : all_posted file round ≡ false = ap (goes_on file) (sym comes) ∙ plays.stopped in
    let step : IsRound new last mid =
    one_more new round last game comes (now_posted laws.alike file new round has) kind in
    let before_new : AreRounds new plays.rounds (before_play new) last =
    played_before laws.alike file new round has not_yet plays.rounds last plays.reached in
    let later = on_the_way laws.one_opening laws.one_stock laws.one_operating new (suc plays.rounds) whole.game.rounds
    (before_play new) mid whole.last (last, before_new, step) whole.game.reached whole.game.stopped in
    let there : head.events ≡ last.game.events ++ event.Round round ∷ heading.more =
    heading.longer ∙ append_assoc last.game.events (event.Round round ∷ []) heading.more in
    let events : game.events ≡ last.game.events ++ (event.Round round ∷ (heading.more ++ (said ++ stands.more))) =
    stands.longer ∙ append_assoc head.events said stands.more
    ∙ ap (λ (list : List Event). list ++ (said ++ stands.more)) there
    ∙ append_assoc last.game.events (event.Round round ∷ heading.more) (said ++ stands.more) in
    subst (λ (t : List ℕ). IsReportedNext new t last.game round head said) (sym whole.is)
    (reported_next laws.adds new last mid whole.last step later.0 later.1 round
    (comes_once step.round round (sym step.comes ∙ comes)) (end_of whole.last.next whole.last.game.events)
    head heading.more said stands.more there events)
