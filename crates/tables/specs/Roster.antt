-- The roster: the companies and the private companies in order, their codes and tokens, and each
-- private's face value and revenue. Also the money that the players and the bank begin with, and
-- the limit of certificates.
use Rattle.std.specs.Prelude.{ℕ, ◌-◌, ◌*◌, ◌==◌, Bool, if◌then◌else◌, List, [], ◌∷◌, codes}
use Rattle.tables.specs.declared.roster.Company.{Company}
use Rattle.tables.specs.declared.roster.Company.TheVariants as company
use Rattle.tables.specs.declared.roster.Private.{Private}
use Rattle.tables.specs.declared.roster.Private.TheVariants.{SchuylkillValley, ChamplainStLawrence, DelawareHudson}
use Rattle.tables.specs.declared.roster.Private.TheVariants.{MohawkHudson, CamdenAmboy, BaltimoreOhio}

-- the companies in roster order
abbrev pub companies : List Company
companies =
    company.Pennsylvania ∷ company.NewYorkCentral ∷ company.CanadianPacific ∷ company.BaltimoreOhio
    ∷ company.ChesapeakeOhio ∷ company.Erie ∷ company.NewHaven ∷ company.BostonMaine ∷ []

-- the place of a company in the roster
abbrev pub index_of_company : Company → ℕ
index_of_company company.Pennsylvania = 0
index_of_company company.NewYorkCentral = 1
index_of_company company.CanadianPacific = 2
index_of_company company.BaltimoreOhio = 3
index_of_company company.ChesapeakeOhio = 4
index_of_company company.Erie = 5
index_of_company company.NewHaven = 6
index_of_company company.BostonMaine = 7

-- two companies are the same
abbrev pub same_company : Company → Company → Bool
same_company a b = index_of_company a == index_of_company b

-- the code of a company
abbrev pub code_of_company : Company → List ℕ
code_of_company company.Pennsylvania = codes "PRR"
code_of_company company.NewYorkCentral = codes "NYC"
code_of_company company.CanadianPacific = codes "CPR"
code_of_company company.BaltimoreOhio = codes "BO"
code_of_company company.ChesapeakeOhio = codes "CO"
code_of_company company.Erie = codes "ERIE"
code_of_company company.NewHaven = codes "NYNH"
code_of_company company.BostonMaine = codes "BM"

-- the letter that stands for a company's token
abbrev pub letter_of_company : Company → List ℕ
letter_of_company company.Pennsylvania = codes "P"
letter_of_company company.NewYorkCentral = codes "N"
letter_of_company company.CanadianPacific = codes "C"
letter_of_company company.BaltimoreOhio = codes "B"
letter_of_company company.ChesapeakeOhio = codes "O"
letter_of_company company.Erie = codes "E"
letter_of_company company.NewHaven = codes "H"
letter_of_company company.BostonMaine = codes "M"

-- the privates in roster order
abbrev pub privates : List Private
privates =
    SchuylkillValley ∷ ChamplainStLawrence ∷ DelawareHudson ∷ MohawkHudson ∷ CamdenAmboy ∷ BaltimoreOhio ∷ []

-- the place of a private in the roster
abbrev pub index_of_private : Private → ℕ
index_of_private SchuylkillValley = 0
index_of_private ChamplainStLawrence = 1
index_of_private DelawareHudson = 2
index_of_private MohawkHudson = 3
index_of_private CamdenAmboy = 4
index_of_private BaltimoreOhio = 5

-- two privates are the same
abbrev pub same_private : Private → Private → Bool
same_private a b = index_of_private a == index_of_private b

-- the code of a private
abbrev pub code_of_private : Private → List ℕ
code_of_private SchuylkillValley = codes "SV"
code_of_private ChamplainStLawrence = codes "CS"
code_of_private DelawareHudson = codes "DH"
code_of_private MohawkHudson = codes "MH"
code_of_private CamdenAmboy = codes "CA"
code_of_private BaltimoreOhio = codes "BOP"

-- the face value of a private
abbrev pub face_of : Private → ℕ
face_of SchuylkillValley = 20
face_of ChamplainStLawrence = 40
face_of DelawareHudson = 70
face_of MohawkHudson = 110
face_of CamdenAmboy = 160
face_of BaltimoreOhio = 220

-- what a private pays its owner
abbrev pub revenue_of : Private → ℕ
revenue_of SchuylkillValley = 5
revenue_of ChamplainStLawrence = 10
revenue_of DelawareHudson = 15
revenue_of MohawkHudson = 20
revenue_of CamdenAmboy = 25
revenue_of BaltimoreOhio = 30

-- what each player begins with
abbrev pub start_money_of : ℕ → ℕ
start_money_of players =
    if players == 3 then 800 else if players == 4 then 600 else if players == 5 then 480 else if players ==
    6 then 400 else 0

-- what the bank begins with: 12,000 less what the players are paid
abbrev pub bank_start_of : ℕ → ℕ
bank_start_of players = 12000 - players * start_money_of players

-- how many certificates a player may hold that count
abbrev pub certificate_limit_of : ℕ → ℕ
certificate_limit_of players =
    if players == 3 then 20 else if players == 4 then 16 else if players == 5 then 13 else if players ==
    6 then 11 else 0

-- how many tokens a company has, including its home token
abbrev pub token_supply_of : Company → ℕ
token_supply_of company.Pennsylvania = 4
token_supply_of company.NewYorkCentral = 4
token_supply_of company.CanadianPacific = 4
token_supply_of company.BaltimoreOhio = 3
token_supply_of company.ChesapeakeOhio = 3
token_supply_of company.Erie = 3
token_supply_of company.NewHaven = 2
token_supply_of company.BostonMaine = 2

-- the price of a company's next token when this many lie: the home token is free, the second costs
-- 40 and each later one 100
abbrev pub token_price_of : ℕ → ℕ
token_price_of laid = if laid == 0 then 0 else if laid == 1 then 40 else 100
