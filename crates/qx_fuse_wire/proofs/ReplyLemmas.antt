-- How many bytes the parts of replies have.
use Rattle.std.proofs.Common.{◌≡◌, ℕ, ◌++◌, length, refl}
use Rattle.qx_fuse_wire.specs.declared.reply.Agreed.{Agreed}
use Rattle.qx_fuse_wire.specs.declared.reply.Attributes.{Attributes}
use Rattle.qx_fuse_wire.specs.declared.reply.Entry.{Entry}
use Rattle.qx_fuse_wire.specs.declared.reply.FileSystem.{FileSystem}
use Rattle.qx_fuse_wire.specs.Replies.{agreed_bytes, attributes_bytes, entry_bytes, file_system_bytes, opened_bytes}

pub attributes_length : (a : Attributes) → length (attributes_bytes a) ≡ 88
unfolding attributes_bytes
attributes_length a = refl

pub entry_length : (e : Entry) → length (entry_bytes e) ≡ 128
unfolding entry_bytes attributes_bytes
entry_length e = refl

pub file_system_length : (s : FileSystem) → length (file_system_bytes s) ≡ 80
unfolding file_system_bytes
file_system_length s = refl

pub agreed_length : (a : Agreed) → length (agreed_bytes a) ≡ 64
unfolding agreed_bytes
agreed_length a = refl

pub created_length : (e : Entry) (handle open_flags : ℕ) → length (entry_bytes e ++ opened_bytes handle open_flags) ≡ 144
unfolding entry_bytes attributes_bytes
created_length e handle open_flags = refl
