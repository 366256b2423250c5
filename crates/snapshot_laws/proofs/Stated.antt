-- Each law as specs/Statements.antt states it, from the file that proves it. Assumes nothing.
use Rattle.snapshot_laws.specs.Statements.{ReadBack, ReadExactly, ReadEnds, Further, VersionsApart}
use Rattle.snapshot_laws.specs.Statements.{MixedStops, MixedLists, UnknownVersion, UnknownFile, UnknownBefore, ReadersKnow}
use Rattle.snapshot_laws.specs.Statements.{ListsRead, ListsExactly, ListsAsSteps, ListsStop}
use Rattle.snapshot_laws.proofs.Back.{reads_file_of}
use Rattle.snapshot_laws.proofs.Read.{was_written, step_further}
use Rattle.snapshot_laws.proofs.Ends.{reads_ends}
use Rattle.snapshot_laws.proofs.Apart.{versions_differ, mixed_stop, mixed_list, version_unknown, file_unknown, before_unknown, readers_known}
use Rattle.snapshot_laws.proofs.Lent.{read_into_lent, read_into_stops}
use Rattle.snapshot_laws.proofs.Taken.{read_into_file_of, read_into_wrote}

pub read_back : ReadBack
read_back = reads_file_of

pub read_exactly : ReadExactly
read_exactly = was_written

pub read_ends : ReadEnds
read_ends = reads_ends

pub further : Further
further = step_further

pub versions_apart : VersionsApart
versions_apart = versions_differ

pub mixed_stops : MixedStops
mixed_stops = mixed_stop

pub mixed_lists : MixedLists
mixed_lists = mixed_list

pub unknown_version : UnknownVersion
unknown_version = version_unknown

pub unknown_file : UnknownFile
unknown_file = file_unknown

pub unknown_before : UnknownBefore
unknown_before = before_unknown

pub readers_know : ReadersKnow
readers_know = readers_known

pub lists_read : ListsRead
lists_read = read_into_file_of

pub lists_exactly : ListsExactly
lists_exactly = read_into_wrote

pub lists_as_steps : ListsAsSteps
lists_as_steps file ids locations carried n e = (read_into_lent file ids locations carried n e).3

pub lists_stop : ListsStop
lists_stop = read_into_stops
