use Rattle.std_defs.specs.Ccm.{ccm_text}
use Rattle.cmac_ccm.proofs.ccm.Ccm.apply.Goals as goal

pub returns : goal.returns
unfolding ccm_text
returns g c = rw (← c.self.view_is) c.apply_key_stream.ensures
