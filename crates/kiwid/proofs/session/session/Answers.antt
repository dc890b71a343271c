use Rattle.kiwid.proofs.Coming.{whole}
use Rattle.kiwid.proofs.Passes.{pass_caused}
use Rattle.kiwid.proofs.session.session.Goals as goal

pub returns-clause-whole : goal.returns-clause-whole
returns-clause-whole g c = λ bytes. whole _ c.answer_reads.result _ _ _ _ bytes _ _ c.answer_reads.ensures.served c.answer_reads.ensures.read_fault c.answer_reads.ensures.write_fault

pub returns-clause-causes : goal.returns-clause-causes
returns-clause-causes g c = pass_caused c.answer_reads.new.pass
