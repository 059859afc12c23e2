-- The families of keywords, by which the code takes them.
use Rattle.std.specs.Prelude.{⊤}
use Rattle.order_grammar.specs.declared.keyword.Keyword.{Keyword}
use Rattle.order_grammar.specs.declared.keyword.Keyword.TheVariants as keyword

-- a line of the file or a head of its sheets begins with it
abbrev pub IsOfFile : Keyword → Type 0
IsOfFile keyword.Game = ⊤
IsOfFile keyword.Sheet = ⊤
IsOfFile keyword.Turn = ⊤
IsOfFile keyword.Company = ⊤
IsOfFile other = ⊥

-- an order begins with it that names a number of dollars or of shares
abbrev pub IsOfAmount : Keyword → Type 0
IsOfAmount keyword.Bid = ⊤
IsOfAmount keyword.Limit = ⊤
IsOfAmount keyword.Par = ⊤
IsOfAmount keyword.Private = ⊤
IsOfAmount keyword.Sell = ⊤
IsOfAmount keyword.Raise = ⊤
IsOfAmount other = ⊥

-- an order begins with it that names one thing
abbrev pub IsOfOne : Keyword → Type 0
IsOfOne keyword.Exchange = ⊤
IsOfOne keyword.Token = ⊤
IsOfOne keyword.Run = ⊤
IsOfOne other = ⊥

-- an order begins with it that says what becomes of what trains earn, or of one that is discarded
abbrev pub IsOfTrains : Keyword → Type 0
IsOfTrains keyword.Pay = ⊤
IsOfTrains keyword.Withhold = ⊤
IsOfTrains keyword.Discard = ⊤
IsOfTrains other = ⊥

-- a line of a certificate's text begins with it that has no places
abbrev pub IsOfCertificate : Keyword → Type 0
IsOfCertificate keyword.Certs = ⊤
IsOfCertificate keyword.Cert = ⊤
IsOfCertificate keyword.Marks = ⊤
IsOfCertificate other = ⊥
