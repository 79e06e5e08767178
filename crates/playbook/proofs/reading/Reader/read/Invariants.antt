-- `Reader::read` meets its contract. The loop's invariant: the store is what it means, and what is read of all the bytes
-- is what is read of those that are left, with that. Assumes nothing.
use lib.ListN.{length}
use Rattle.playbook.specs.Books.{book_of}
use Rattle.playbook.proofs.Sound.{Sound}
use Rattle.playbook.proofs.Turns.{SoFar}
use Rattle.playbook.proofs.reading.Reader.read.Given as goal

abbrev pub invariant-loop-record : goal.invariant-loop-record
invariant-loop-record l =
    Sound l.self.playbook × SoFar l.s (book_of l.initial.self.playbook) l.rest (book_of l.self.playbook)

abbrev pub decreases-loop-record : goal.decreases-loop-record
decreases-loop-record l = length l.rest
