-- Why a game was not played: allocation failed, or the runner refused in a company's turn.
use Rattle.std.specs.Prelude.{⊤}
use Rattle.legal_runs.specs.declared.runner.RunnerFault.{RunnerFault}
use Rattle.legal_runs.specs.declared.runner.RunnerFault.TheVariants as runner_fault
use Rattle.rounds.specs.declared.fault.PlayFault.{PlayFault}
use Rattle.rounds.specs.declared.fault.PlayFault.TheVariants as play_fault
use Rattle.tables.specs.declared.roster.Company.{Company}
use Rattle.tables.specs.declared.round.Round.{Round}

-- the fault of a runner in the turn of a company, as that of play
abbrev pub fault_in_turn : RunnerFault → Round → Company → PlayFault
fault_in_turn runner_fault.Memory round company = play_fault.Memory
fault_in_turn runner_fault.Refused round company = play_fault.Refused round company

-- the runner refused
abbrev pub IsRefused : PlayFault → Type 0
IsRefused play_fault.Memory = ⊥
IsRefused (play_fault.Refused round company) = ⊤
