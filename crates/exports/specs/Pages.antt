-- How a page passes to C and Rust: its status, and the three lent lists. Assumes nothing.
use Rattle.std.specs.Prelude.{List, ℕ}
use Rattle.lookup_page.specs.Page.{Left}
use Rattle.exports_status.specs.Status.{status_of}

pub record ExportedPage : Type 0 where
  pub status : ℕ
  pub numbers : List ℕ
  pub locations : List ℕ
  pub carried : List ℕ

abbrev pub exported_page : Left → ExportedPage
exported_page l = record { status = status_of l.outcome; numbers = l.numbers; locations = l.locations; carried = l.carried }
