-- The statuses of a run that ends when its words are read.
use Rattle.std.specs.Prelude.{◌≡◌, ◌⊎◌, ℕ}
use Rattle.clap.specs.Words.{kind_of}
use Rattle.clap.specs.declared.error.kind.ErrorKind.{ErrorKind}
use Rattle.clap.specs.declared.error.kind.ErrorKind.TheVariants.{DisplayHelp, DisplayVersion}
use Rattle.words.specs.declared.given.NoWords.{NoWords}
use Rattle.words.specs.declared.given.NoWords.TheVariants.{NoMemory, NoText}
use Rattle.words.specs.declared.refusal.Refusal.{Refusal}
use Rattle.words.specs.declared.refusal.Refusal.TheVariants.{Line, Memory}

-- the status of a line for which clap has a message: 0 if help or the version was asked for, otherwise 2
abbrev pub line_status : ErrorKind → ℕ
line_status DisplayHelp = 0
line_status DisplayVersion = 0
line_status _ = 2

-- the same, or 1 if the message could not be printed
abbrev pub IsLineStatus : ErrorKind → (status : ℕ) → Type 0
IsLineStatus kind status = (status ≡ line_status kind) ⊎ (status ≡ 1)

-- the status of a rejected line; 1 if out of memory
abbrev pub IsExitStatusOf : Refusal → (status : ℕ) → Type 0
IsExitStatusOf (Line error) status = IsLineStatus (kind_of error) status
IsExitStatusOf Memory status = status ≡ 1

-- the status of a run without words: 2 if a word is not valid UTF-8, as for any line that is wrong; 1 if out of memory
abbrev pub wordless_status : NoWords → ℕ
wordless_status (NoText place) = 2
wordless_status NoMemory = 1
