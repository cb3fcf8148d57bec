-- The report (own), as contracts see it and as it is printed: eight lines, each a name and a decimal number, followed by the transactions
-- in doubt, if there are any.
use Rattle.std.specs.Prelude.{ℕ, List, [], ◌++◌, length, flat_map, ◌==◌, if◌then◌else◌, codes, decimal}

-- what a restart found and did
pub record ReportContent : Type 0 where
  pub records : ℕ
  pub torn : ℕ
  pub redo_from : ℕ
  pub redone : ℕ
  pub losers : ℕ
  pub compensated : ℕ
  pub ended : ℕ
  pub pages : ℕ
  pub in_doubt : List ℕ

-- a name, a blank, a number and a line feed
abbrev pub line : List ℕ → ℕ → List ℕ
line name number = ((name ++ codes " ") ++ decimal number) ++ codes "\n"

-- how many are in doubt, and which; no line if there are none
abbrev pub doubt_lines : List ℕ → List ℕ
doubt_lines numbers =
    if length numbers == 0 then [] else line (codes "in-doubt") (length numbers) ++ flat_map (λ n. line (codes "transaction") n) numbers

abbrev pub number_lines : ReportContent → List ℕ
number_lines r =
    line (codes "records") r.records
    ++ line (codes "torn") r.torn
    ++ line (codes "redo-from") r.redo_from
    ++ line (codes "redone") r.redone
    ++ line (codes "losers") r.losers
    ++ line (codes "compensated") r.compensated
    ++ line (codes "ended") r.ended
    ++ line (codes "pages") r.pages

abbrev pub report_lines : ReportContent → List ℕ
report_lines r = number_lines r ++ doubt_lines r.in_doubt
