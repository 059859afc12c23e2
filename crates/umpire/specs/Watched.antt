-- A reader or a writer that remembers whether a call of it failed: what it passes each call on to,
-- and whether one has failed.
use Rattle.std.specs.Prelude.{Bool}
use Rattle.umpire.specs.declared.watched.Watched.{Watched}

-- the reader or writer that calls are passed on to
abbrev pub inside : {S : Type 0} → Watched S → S
inside watched = watched.inner

-- a call failed, or a write of one or more bytes took none
abbrev pub has_failed : {S : Type 0} → Watched S → Bool
has_failed watched = watched.failed
