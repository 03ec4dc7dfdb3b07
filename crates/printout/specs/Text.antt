-- Bytes in a lent text, and the text that is printed. This is what a reader believes.
-- Assumes nothing.
use Rattle.std.specs.Prelude.{ℕ, ◌+◌, List, ◌≡◌, length}
use Rattle.std.proofs.lemmas.List.Edits.{sets}
use Rattle.io.specs.Counts.{IsPrefixLen}
use Rattle.columns.specs.declared.Sheet.TheVariants.{Answer}
use Rattle.columns.specs.Columns.{file_bytes}
use Rattle.claims.specs.declared.Notation.{Notation}
use Rattle.claims.specs.Files.{target_files, question_files}
use Rattle.printout.specs.Document.{reach_bytes, ReachPrintout, AskPrintout}
use Rattle.printout.specs.PrintedLines.{reach_printed, ask_printed}

-- the bytes stand in a text from byte `at` up to byte `end`; every other byte is as it was
pub record Put (bytes : List ℕ) (at end : ℕ) (before after : List ℕ) : Type 0 where
  pub ends : end ≡ at + length bytes
  pub text : after ≡ sets before at bytes

-- the printout for the bytes s of a table and g of a target: its lines stand in front of a text, up to byte n, which the text has, and they are document 01's
pub record ReachText (s g : List ℕ) (n : ℕ) (before after : List ℕ) : Type 0 where
  pub put : Put (reach_bytes (reach_printed (target_files s g))) 0 n before after
  pub counts : IsPrefixLen n after
  pub means : ReachPrintout s g (reach_printed (target_files s g))

-- the same for the bytes q of a question in the notation w
pub record AskText (w : Notation) (s q : List ℕ) (n : ℕ) (before after : List ℕ) : Type 0 where
  pub put : Put (file_bytes Answer (ask_printed (question_files w s q))) 0 n before after
  pub counts : IsPrefixLen n after
  pub means : AskPrintout w s q (ask_printed (question_files w s q))
