mod AddressedLocals
mod Arguments
