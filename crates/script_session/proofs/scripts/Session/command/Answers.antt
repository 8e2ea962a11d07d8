use Rattle.std.proofs.Common.{◌≡◌, ◌∙◌, true, false, [], ap, sym}
use Rattle.script_text.specs.declared.commands.Command.TheVariants as command
use Rattle.script_text.specs.declared.commands.Line.TheVariants.{Cmd}
use Rattle.transforms.specs.declared.request.Dir.TheVariants as dir
use Rattle.dialogues.specs.RequestCommands.{request_of}
use Rattle.script_session.specs.ReplyText.{hands_out}
use Rattle.script_session.proofs.Commands.{command-arm, request-arm-as}
use Rattle.script_session.proofs.scripts.Session.command.Goals as goal

pub returns-in-Aes : goal.returns-in-Aes
returns-in-Aes g c = command-arm c.aes.result c.args.self.now _ c.args.number c.args.command (command.Aes c.in-Aes.key c.in-Aes.block) _ _ c.in-Aes.is c.aes.ensures

pub returns-in-Register : goal.returns-in-Register
returns-in-Register g c = command-arm c.register.result c.args.self.now _ c.args.number c.args.command (command.Register c.in-Register.driver c.in-Register.priority) _ _ c.in-Register.is c.register.ensures

pub returns-in-Unregister : goal.returns-in-Unregister
returns-in-Unregister g c = command-arm c.unregister.result c.args.self.now _ c.args.number c.args.command (command.Unregister c.in-Unregister.driver) _ _ c.in-Unregister.is c.unregister.ensures

pub returns-in-Probe : goal.returns-in-Probe
returns-in-Probe g c = command-arm c.probe.result c.args.self.now _ c.args.number c.args.command (command.Probe c.in-Probe.names) _ _ c.in-Probe.is c.probe.ensures

pub returns-in-Alloc : goal.returns-in-Alloc
returns-in-Alloc g c = command-arm c.alloc.result c.args.self.now _ c.args.number c.args.command (command.Alloc c.in-Alloc.label c.in-Alloc.name c.in-Alloc.length) _ _ c.in-Alloc.is c.alloc.ensures

pub returns-in-Key : goal.returns-in-Key
returns-in-Key g c = command-arm c.set.result c.args.self.now _ c.args.number c.args.command (command.Key c.in-Key.label c.in-Key.key) _ _ c.in-Key.is c.set.ensures

pub returns-in-Authsize : goal.returns-in-Authsize
returns-in-Authsize g c = command-arm c.set-in-Authsize.result c.args.self.now _ c.args.number c.args.command (command.Authsize c.in-Authsize.label c.in-Authsize.size) _ _ c.in-Authsize.is c.set-in-Authsize.ensures

pub returns-in-Bulk : goal.returns-in-Bulk
returns-in-Bulk g c = command-arm c.bulk.result c.args.self.now _ c.args.number c.args.command (command.Bulk c.in-Bulk.label c.in-Bulk.size c.in-Bulk.seed) _ _ c.in-Bulk.is c.bulk.ensures

pub returns-in-Mask : goal.returns-in-Mask
returns-in-Mask g c = command-arm c.set-in-Mask.result c.args.self.now _ c.args.number c.args.command (command.Mask c.in-Mask.label c.in-Mask.mask) _ _ c.in-Mask.is c.set-in-Mask.ensures

pub returns-in-Hold : goal.returns-in-Hold
returns-in-Hold g c = command-arm c.set-in-Hold.result c.args.self.now _ c.args.number c.args.command (command.Hold c.in-Hold.label) _ _ c.in-Hold.is c.set-in-Hold.ensures

pub returns-in-Go : goal.returns-in-Go
returns-in-Go g c = command-arm c.set-in-Go.result c.args.self.now _ c.args.number c.args.command (command.Go c.in-Go.label) _ _ c.in-Go.is c.set-in-Go.ensures

pub unreachable-requires : goal.unreachable-requires
unreachable-requires g c = absurd (let both : true ≡ false = sym (ap (λ x. hands_out (Cmd x)) c.in-Poll.is) ∙ c.requires.no_collect in cc)

pub returns-in-Free : goal.returns-in-Free
returns-in-Free g c = command-arm c.free.result c.args.self.now _ c.args.number c.args.command (command.Free c.in-Free.label) _ _ c.in-Free.is c.free.ensures

pub returns-in-Refs : goal.returns-in-Refs
returns-in-Refs g c = command-arm c.refs.result c.args.self.now _ c.args.number c.args.command (command.Refs c.in-Refs.driver) _ _ c.in-Refs.is c.refs.ensures

pub returns-in-List : goal.returns-in-List
returns-in-List g c = command-arm c.list.result c.args.self.now _ c.args.number c.args.command command.List _ _ c.in-List.is c.list.ensures

pub returns-in-Enc : goal.returns-in-Enc
returns-in-Enc g c = command-arm c.request.result c.args.self.now _ c.args.number c.args.command (command.Enc c.in-Enc.label c.in-Enc.iv c.in-Enc.aad c.in-Enc.text c.in-Enc.backlog) _ _ c.in-Enc.is c.request.ensures

pub returns-in-Dec : goal.returns-in-Dec
returns-in-Dec g c = command-arm c.request-in-Dec.result c.args.self.now _ c.args.number c.args.command (command.Dec c.in-Dec.label c.in-Dec.iv c.in-Dec.aad c.in-Dec.text c.in-Dec.backlog) _ _ c.in-Dec.is c.request-in-Dec.ensures

pub returns-in-Mac : goal.returns-in-Mac
returns-in-Mac g c =
    command-arm c.request-in-Mac.result c.args.self.now _ c.args.number c.args.command (command.Mac c.in-Mac.label c.in-Mac.text c.in-Mac.backlog) _ _ c.in-Mac.is
    (request-arm-as c.request-in-Mac.result c.args.self.now _ c.args.number c.in-Mac.label c.mac_request-asked.result (request_of dir.Mac [] [] c.in-Mac.text) c.in-Mac.backlog _ _ c.mac_request-asked.ensures c.request-in-Mac.ensures)
