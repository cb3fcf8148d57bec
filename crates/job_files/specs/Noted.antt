-- What a noted file is over (own).
use Rattle.job_files.specs.declared.noted.NotedFile.{NotedFile}

-- the file whose calls are noted
abbrev pub inner_file : {F C : Type 0} → NotedFile F C → F
inner_file noted = noted.file
